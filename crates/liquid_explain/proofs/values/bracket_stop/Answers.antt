use Rattle.liquid_grammar.proofs.TokenExact.{exact-value}
use Rattle.liquid_explain.proofs.FarthestLemmas.{after_far, no_after}
use Rattle.liquid_explain.proofs.values.bracket_stop.Goals as goal

pub returns-in-None : goal.returns-in-None
returns-in-None c = no_after c.args.inside.now c.in-None.ensures.value

pub returns-in-Some : goal.returns-in-Some
returns-in-Some c = after_far exact-value c.args.inside.now _ _ _ c.in-Some.ensures.value.match c.byte_stop.ensures
