use Rattle.liquid_grammar.proofs.GrammarExact.{exact-closer, exact-white}
use Rattle.liquid_explain.proofs.FarthestLemmas.{wants_far, not_wanted}
use Rattle.liquid_explain.proofs.RuleLemmas.{begins, left_ends, left_nothing, left_far}
use Rattle.liquid_explain.proofs.tokens.closer_stop.Goals as goal

pub returns-in-Some : goal.returns-in-Some
returns-in-Some c =
    left_far exact-white c.args.s.now _ _ c.skip_white-place.ensures.value
    (not_wanted _ _ (begins (left_ends (exact-closer c.args.kind) _ _ c.in-Some.ensures)))

pub returns-in-None : goal.returns-in-None
returns-in-None c =
    left_far exact-white c.args.s.now _ _ c.skip_white-place.ensures.value
    (wants_far _ _ _ c.want.ensures (left_nothing (exact-closer c.args.kind) _ c.in-None.ensures))
