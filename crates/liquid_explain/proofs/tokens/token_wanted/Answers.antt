use Rattle.liquid_explain.proofs.RuleLemmas.{begins_at}
use Rattle.liquid_explain.proofs.FarthestLemmas.{wants_far, not_wanted}
use Rattle.liquid_explain.proofs.tokens.token_wanted.Goals as goal

pub returns-in-Some : goal.returns-in-Some
returns-in-Some c = not_wanted c.args.s.now _ (begins_at _ _ c.in-Some.ensures.value.match)

pub returns-in-None : goal.returns-in-None
returns-in-None c = wants_far c.args.s.now _ _ c.want.ensures c.in-None.ensures.value
