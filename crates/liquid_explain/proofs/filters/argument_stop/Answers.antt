use Rattle.liquid_grammar.proofs.GrammarExact.{exact-identifier}
use Rattle.liquid_explain.proofs.RuleLemmas.{value_then, no_value_then}
use Rattle.liquid_explain.proofs.filters.argument_stop.Goals as goal

pub returns-in-None : goal.returns-in-None
returns-in-None c = no_value_then c.args.s.now _ c.value_stop-first.ensures c.in-None.ensures.value

pub returns-in-Some : goal.returns-in-Some
returns-in-Some c =
    value_then exact-identifier c.args.s.now _ _ _ _ _ c.farther.ensures c.value_stop-first.ensures c.in-Some.ensures.value
    c.keyword_stop.ensures
