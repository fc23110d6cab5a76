use Rattle.std.proofs.Common.{[], Some, sym, ap, ◌∙◌}
use Rattle.liquid_grammar.specs.meaning.Meanings.{literal_of}
use Rattle.liquid_parser.proofs.ExpectLemmas.{literal_is}
use Rattle.liquid_parser.proofs.LiteralLemmas.{literal_fine}
use Rattle.liquid_parser.proofs.cursor.token.TagToken.expect_literal.Goals as goal

pub returns-in-Some : goal.returns-in-Some
returns-in-Some c t is =
    let made = rw c.in-Some.is at c.in_ok-value-in-Some-Literal.ensures [] in
    literal_is _ t (literal_of c.in-Some-Literal.literal) (rw c.in-Some-Literal.field-0-is at c.in-Some-Literal.ensures t is)
    ∙ ap Some (sym made.1)

pub returns-in-None : goal.returns-in-None
returns-in-None c t is =
    let value = rw c.in-Some-Literal.field-0-is at c.in-Some-Literal.ensures t is in
    let fine = literal_fine value.value (literal_of c.in-Some-Literal.literal) value.kind_is value.fine in
    absurd ((rw c.in-None.is at c.in_ok-value-in-Some-Literal.ensures fine.0) fine.1)
