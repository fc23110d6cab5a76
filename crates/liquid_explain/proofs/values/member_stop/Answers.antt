use Rattle.liquid_grammar.proofs.Exact.{exact-byte}
use Rattle.liquid_explain.proofs.FarthestLemmas.{wants_far, not_wanted}
use Rattle.liquid_explain.proofs.RuleLemmas.{begins_at, left_far, none_left_far}
use Rattle.liquid_explain.proofs.values.member_stop.Goals as goal

pub returns-in-None : goal.returns-in-None
returns-in-None c = none_left_far (exact-byte 46) c.args.s.now c.in-None.ensures.value

pub returns-in-Some-match_identifier : goal.returns-in-Some-match_identifier
returns-in-Some-match_identifier c =
    left_far (exact-byte 46) c.args.s.now _ _ c.in-Some.ensures.value
    (not_wanted _ _ (begins_at _ _ c.in-Some-match_identifier.ensures.value))

pub returns-in-None-match_identifier : goal.returns-in-None-match_identifier
returns-in-None-match_identifier c =
    left_far (exact-byte 46) c.args.s.now _ _ c.in-Some.ensures.value (wants_far _ _ _ c.want.ensures
    c.in-None-match_identifier.ensures.value)
