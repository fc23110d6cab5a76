use Rattle.liquid_grammar.proofs.TokenExact.{exact-value}
use Rattle.liquid_explain.proofs.RuleLemmas.{value_then, no_value_then}
use Rattle.liquid_explain.proofs.tokens.end_stop.Goals as goal

pub returns-in-None : goal.returns-in-None
returns-in-None c = no_value_then c.args.s.now _ c.value_stop-first.ensures c.in-None.ensures.value

pub returns-in-Some : goal.returns-in-Some
returns-in-Some c =
    value_then exact-value c.args.s.now _ _ _ _ _ c.farther.ensures c.value_stop-first.ensures c.in-Some.ensures.value.match
    c.byte_stop.ensures
