use Rattle.liquid_grammar.proofs.Exact.{exact-byte}
use Rattle.liquid_grammar.proofs.GrammarExact.{exact-white}
use Rattle.liquid_explain.proofs.FarthestLemmas.{wants_far, not_wanted}
use Rattle.liquid_explain.proofs.RuleLemmas.{begins, left_ends, left_nothing, left_far}
use Rattle.liquid_explain.proofs.values.byte_stop.Goals as goal

pub returns-in-Some : goal.returns-in-Some
returns-in-Some c =
    left_far exact-white c.args.s.now _ _ c.skip_white-place.ensures.value
    (not_wanted _ c.args.part (begins (left_ends (exact-byte c.args.byte) _ _ c.in-Some.ensures.value)))

pub returns-in-None : goal.returns-in-None
returns-in-None c =
    left_far exact-white c.args.s.now _ _ c.skip_white-place.ensures.value
    (wants_far _ c.args.part _ c.want.ensures (left_nothing (exact-byte c.args.byte) _ c.in-None.ensures.value))
