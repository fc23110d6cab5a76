use Rattle.std.proofs.Common.{[], sym, ap, ◌∙◌}
use Rattle.liquid_grammar.specs.declared.parts.TokenParts.TheVariants as parts
use Rattle.liquid_plugins.specs.meaning.Expression.{literal}
use Rattle.liquid_parser.specs.meaning.Handed.{chain}
use Rattle.liquid_parser.proofs.ExpectLemmas.{literal_shape}
use Rattle.liquid_parser.proofs.LiteralLemmas.{literal_built}
use Rattle.liquid_parser.proofs.cursor.token.TagToken.plain_value.Goals as goal

pub returns-in-Some : goal.returns-in-Some
returns-in-Some c t is =
    let made = rw c.in-Some.is at c.in_ok-value-in-Literal.ensures [] in
    literal_shape c.args.self t c.in-Literal.literal is (c.in-Chain.is ∙ ap parts.Chain c.in-Literal.is)
    ∙ (ap (λ x. chain (literal x) []) (sym made.1) ∙ ap (λ e. chain e []) (sym (literal_built c.in-Some.value)))
