use Rattle.liquid_grammar.proofs.TokenExact.{exact-range_start}
use Rattle.liquid_explain.proofs.RuleLemmas.{left_far, none_left_far}
use Rattle.liquid_explain.proofs.tokens.range_stop.Goals as goal

pub returns-in-None : goal.returns-in-None
returns-in-None c = none_left_far exact-range_start c.args.s.now c.in-None.ensures

pub returns-in-Some : goal.returns-in-Some
returns-in-Some c = left_far exact-range_start c.args.s.now _ _ c.in-Some.ensures c.start_stop.ensures
