use Rattle.std.proofs.Common.{ap, sym, ◌∙◌}
use Rattle.std.proofs.lemmas.Result.{err_from_is_err_and}
use Rattle.liquid_error.specs.meaning.Told.{told}
use Rattle.liquid_parser.specs.meaning.Reading.{checked}
use Rattle.liquid_parser.proofs.TokenLemmas.{if_some_weaker}
use Rattle.liquid_parser.proofs.cursor.tag.Tag.new.Goals as goal

pub returns-in_err-check-in-Some-clause-tag : goal.returns-in_err-check-in-Some-clause-tag
returns-in_err-check-in-Some-clause-tag c t m =
    let seen = c.in-Some.ensures.only t m in
    let p = err_from_is_err_and c.from_residual.result c.from_residual.ensures.1 in
    rw (p.1, p.2) (if_some_weaker (told c.in_err-check-in-Some.field-0.0)
    (λ r is. ap (checked c.args.text.now) (sym seen.fault_is) ∙ is) c.in_err-check-in-Some.ensures)

pub returns-in-None-clause-tag : goal.returns-in-None-clause-tag
returns-in-None-clause-tag c t m = absurd (c.in-None.ensures.only t m)
