use Rattle.liquid_grammar.proofs.TokenExact.{exact-argument}
use Rattle.liquid_explain.proofs.RuleLemmas.{value_then, no_value_then}
use Rattle.liquid_explain.proofs.filters.list_stop.Goals as goal

pub returns-in-None : goal.returns-in-None
returns-in-None c = no_value_then c.args.s.now _ c.argument_stop-first.ensures c.in-None.ensures.value

pub returns-in-Some : goal.returns-in-Some
returns-in-Some c =
    value_then exact-argument c.args.s.now _ _ _ _ _ c.farther.ensures c.argument_stop-first.ensures c.in-Some.ensures.value.match
    c.more_stop.ensures
