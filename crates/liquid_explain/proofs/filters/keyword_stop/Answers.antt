use Rattle.liquid_explain.proofs.RuleLemmas.{exact-separated, left_far, none_left_far}
use Rattle.liquid_explain.proofs.filters.keyword_stop.Goals as goal

pub returns-in-None : goal.returns-in-None
returns-in-None c = none_left_far (exact-separated 58) c.args.s.now c.in-None.ensures.value

pub returns-in-Some : goal.returns-in-Some
returns-in-Some c = left_far (exact-separated 58) c.args.s.now _ _ c.in-Some.ensures.value c.value_stop.ensures
