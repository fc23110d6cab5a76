use Rattle.liquid_grammar.proofs.PartLemmas.{none_left, returned_none}
use Rattle.liquid_grammar.proofs.FilterPartLemmas.{filter_first, no_separator, none_following, no_filter_name}
use Rattle.liquid_grammar.proofs.parts.next_filter.Goals as goal

pub returns-in_err-place-clause-only : goal.returns-in_err-place-clause-only
returns-in_err-place-clause-only c rest filters m =
    returned_none _ _ c.from_residual.ensures
    (none_left c.args.s.now rest filters m (no_separator 124 c.args.s.now c.in_err-place.ensures.value))

pub returns-in_err-name-clause-only : goal.returns-in_err-name-clause-only
returns-in_err-name-clause-only c rest filters m =
    returned_none _ _ c.from_residual-in_err-name.ensures
    (none_left c.args.s.now rest filters m (none_following 124 c.args.s.now _ c.in_ok-place.ensures.value
    (no_filter_name _ c.in_err-name.ensures.value)))

pub returns-clause-only : goal.returns-clause-only
returns-clause-only c rest filters m = filter_first _ c.args.s.now rest filters c.in_ok-place.ensures.value c.in_ok-name.ensures.value m
