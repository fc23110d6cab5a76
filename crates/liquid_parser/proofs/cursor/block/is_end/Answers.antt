use Rattle.std.proofs.Common.{sym, ap, ◌∙◌}
use Rattle.std.proofs.lemmas.Result.{err_from_is_err_and}
use Rattle.std.specs.Prelude.{None, Ok}
use Rattle.liquid_error.specs.meaning.Refusal.{ok_then}
use Rattle.liquid_parser.proofs.BlockLemmas.{end_tag, same_fault}
use Rattle.liquid_parser.proofs.StepLemmas.{then_refused}
use Rattle.liquid_parser.proofs.cursor.block.is_end.Goals as goal

pub returns-in_ok-expect_nothing-in-Tag : goal.returns-in_ok-expect_nothing-in-Tag
returns-in_ok-expect_nothing-in-Tag c source following e m =
    let is = end_tag source c.args.end_name.now following c.in-Tag.tag e (rw c.in-Tag.is at m) (sym c.eq.ensures ∙ c.if-eq.true) in
    is.2 ∙ ap (λ r. ok_then r (λ _. Ok None)) (c.in_ok-expect_nothing-in-Tag.ensures _ is.1)

pub returns-in_err-expect_nothing-in-Tag : goal.returns-in_err-expect_nothing-in-Tag
returns-in_err-expect_nothing-in-Tag c source following e m =
    let is = end_tag source c.args.end_name.now following c.in-Tag.tag e (rw c.in-Tag.is at m) (sym c.eq.ensures ∙ c.if-eq.true) in
    let p = err_from_is_err_and c.from_residual.result c.from_residual.ensures.1 in
    rw (p.1, p.2) (same_fault _ _ _ is.2 (then_refused _ _ (λ _. Ok None) (c.in_err-expect_nothing-in-Tag.ensures _ is.1)))
