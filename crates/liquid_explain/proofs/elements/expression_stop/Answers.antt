use Rattle.liquid_explain.proofs.RuleLemmas.{exact-opened, left_far, none_left_far}
use Rattle.liquid_explain.proofs.elements.expression_stop.Goals as goal

pub returns-in-None : goal.returns-in-None
returns-in-None c = none_left_far (exact-opened 123) c.args.s.now c.in-None.ensures

pub returns-in-Some : goal.returns-in-Some
returns-in-Some c = left_far (exact-opened 123) c.args.s.now _ _ c.in-Some.ensures c.closed_chain_stop.ensures
