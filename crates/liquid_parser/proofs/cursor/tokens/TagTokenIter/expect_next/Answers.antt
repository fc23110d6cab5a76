use Rattle.std.proofs.Common.{Err, sym, ◌∙◌, ap}
use Rattle.liquid_error.specs.meaning.Told.{told}
use Rattle.liquid_parser.proofs.HandedLemmas.{or_handed, or_none}
use Rattle.liquid_parser.proofs.TokenLemmas.{if_some_weaker}
use Rattle.liquid_parser.proofs.cursor.tokens.TagTokenIter.expect_next.Goals as goal

pub returns-in-Some-clause-value : goal.returns-in-Some-clause-value
returns-in-Some-clause-value c ts are =
    let h = c.in-Some.ensures.value ts are in
    (h.0, or_handed c.args.message.now ts h.0 h.1, h.2)

pub returns-in-None-clause-value : goal.returns-in-None-clause-value
returns-in-None-clause-value c ts are =
    let h = c.in-None.ensures.value ts are in (
      if_some_weaker (told c.raise_error.result) (λ r is. or_none c.args.message.now ts h.0 ∙ ap (λ x. Err x) (sym is))
          (c.raise_error.ensures ts h.1),
      h.1,
    )
