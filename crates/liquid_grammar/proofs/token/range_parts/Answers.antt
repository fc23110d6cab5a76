use Rattle.std.proofs.Common.{◌∙◌}
use Rattle.liquid_grammar.proofs.Scanning.{
  range_scan,
  joined_fault,
  no_range,
  range_no_start,
  range_no_first,
  range_no_dots,
  range_no_second,
  range_no_end,
}
use Rattle.liquid_grammar.proofs.TokenPartLemmas.{range_ends}
use Rattle.liquid_grammar.proofs.token.range_parts.Goals as goal

pub returns-in_err-start-clause-value : goal.returns-in_err-start-clause-value
returns-in_err-start-clause-value c = no_range _ _ c.from_residual.ensures (range_no_start c.args.s.now c.in_err-start.ensures.value)

pub returns-in_err-first-clause-value : goal.returns-in_err-first-clause-value
returns-in_err-first-clause-value c = no_range _ _ c.from_residual-in_err-first.ensures
    (range_no_first c.args.s.now _ c.in_ok-start.ensures.value c.in_err-first.ensures.value)

pub returns-in_err-stop-clause-value : goal.returns-in_err-stop-clause-value
returns-in_err-stop-clause-value c =
    no_range _ _ c.from_residual-in_err-stop.ensures
    (range_no_dots c.args.s.now _ _ _ c.in_ok-start.ensures.value c.in_ok-first.ensures.value c.in_err-stop.ensures.value)

pub returns-in_err-second-clause-value : goal.returns-in_err-second-clause-value
returns-in_err-second-clause-value c =
    no_range _ _ c.from_residual-in_err-second.ensures
    (range_no_second c.args.s.now _ _ _ _ c.in_ok-start.ensures.value c.in_ok-first.ensures.value c.in_ok-stop.ensures.value
    c.in_err-second.ensures.value)

pub returns-in_err-rest-clause-value : goal.returns-in_err-rest-clause-value
returns-in_err-rest-clause-value c =
    no_range _ _ c.from_residual-in_err-rest.ensures
    (range_no_end c.args.s.now _ _ _ _ _ _ c.in_ok-start.ensures.value c.in_ok-first.ensures.value c.in_ok-stop.ensures.value
    c.in_ok-second.ensures.value c.in_err-rest.ensures.value)

pub returns-clause-value : goal.returns-clause-value
returns-clause-value c =
    joined_fault _ _ c.or.result _ c.or.ensures
    ∙ range_scan c.args.s.now _ _ _ _ _ _ _ c.in_ok-start.ensures.value c.in_ok-first.ensures.value c.in_ok-stop.ensures.value
    c.in_ok-second.ensures.value c.in_ok-rest.ensures.value

pub returns-clause-ends : goal.returns-clause-ends
returns-clause-ends c =
    range_ends c.args.s.now _ _ _ _ _ _ _ c.in_ok-start.ensures.value c.in_ok-first.ensures.value c.in_ok-stop.ensures.value
    c.in_ok-second.ensures.value c.in_ok-rest.ensures.value
