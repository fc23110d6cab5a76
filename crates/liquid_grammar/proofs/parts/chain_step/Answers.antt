use Rattle.std.proofs.Common.{Some}
use Rattle.liquid_grammar.proofs.PartLemmas.{returned_none, none_left}
use Rattle.liquid_grammar.proofs.ExpressionPartLemmas.{closes}
use Rattle.liquid_grammar.proofs.ChainStepLemmas.{nameless, unclosed, filter_next, barless}
use Rattle.liquid_grammar.proofs.parts.chain_step.Goals as goal

pub returns-in_err-name-in-Some-clause-only : goal.returns-in_err-name-in-Some-clause-only
returns-in_err-name-in-Some-clause-only c rest filters m =
    returned_none _ _ c.from_residual.ensures
    (nameless c.args.s.now _ _ _ rest filters c.skip_white-here.ensures.value c.in-Some.ensures.value c.skip_white-place.ensures.value
    c.in_err-name-in-Some.ensures.value m)

pub returns-in_err-closer-in-None-clause-only : goal.returns-in_err-closer-in-None-clause-only
returns-in_err-closer-in-None-clause-only c rest filters m =
    returned_none _ _ c.from_residual-in_err-closer-in-None.ensures
    (unclosed c.args.s.now _ rest filters c.skip_white-here.ensures.value c.in-None.ensures.value
    c.in_err-closer-in-None.ensures.value m)

pub returns-in_ok-name-in-Some-clause-only : goal.returns-in_ok-name-in-Some-clause-only
returns-in_ok-name-in-Some-clause-only c rest filters m =
    filter_next _ c.args.s.now _ _ rest filters c.skip_white-here.ensures.value c.in-Some.ensures.value c.skip_white-place.ensures.value
    c.in_ok-name-in-Some.ensures.value m

pub returns-in_ok-closer-in-None-clause-only : goal.returns-in_ok-closer-in-None-clause-only
returns-in_ok-closer-in-None-clause-only c rest filters m = record {
  none = none_left c.args.s.now rest filters m (barless c.args.s.now _ c.skip_white-here.ensures.value c.in-None.ensures.value);
  closes = closes c.args.s.now _ (Some c.in_ok-closer-in-None.field-0) c.skip_white-here.ensures.value c.in_ok-closer-in-None.ensures.value;
}
