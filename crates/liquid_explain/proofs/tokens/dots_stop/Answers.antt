use Rattle.liquid_grammar.proofs.Exact.{exact-byte, exact-right}
use Rattle.liquid_grammar.proofs.GrammarExact.{exact-white}
use Rattle.liquid_explain.proofs.FarthestLemmas.{wants_far, not_wanted, no_after, first_far, second_far}
use Rattle.liquid_explain.proofs.RuleLemmas.{begins, left_ends, left_nothing, left_far}
use Rattle.liquid_explain.proofs.tokens.dots_stop.Goals as goal

pub returns-in-None : goal.returns-in-None
returns-in-None c =
    let none = left_nothing (exact-right (exact-byte 46) (exact-byte 46)) _ c.in-None.ensures in
    left_far exact-white c.args.s.now _ _ c.skip_white-place.ensures.value
    (first_far _ _ (wants_far _ _ _ c.want.ensures none) (no_after _ none))

pub returns-in-Some : goal.returns-in-Some
returns-in-Some c =
    let dots = exact-right (exact-byte 46) (exact-byte 46) in
    left_far exact-white c.args.s.now _ _ c.skip_white-place.ensures.value
    (second_far _ _ (not_wanted _ _ (begins (left_ends dots _ _ c.in-Some.ensures)))
    (left_far dots _ _ _ c.in-Some.ensures (left_far exact-white _ _ _ c.skip_white.ensures.value c.end_stop.ensures)))
