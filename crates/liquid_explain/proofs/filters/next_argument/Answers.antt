use Rattle.liquid_explain.proofs.RuleLemmas.{no_following, no_following_after, following_ends}
use Rattle.liquid_explain.proofs.filters.next_argument.Goals as goal

pub returns-in-None-clause-value : goal.returns-in-None-clause-value
returns-in-None-clause-value c = no_following 44 c.args.s.now c.in-None.ensures.value

pub returns-in-None-match_argument-clause-value : goal.returns-in-None-match_argument-clause-value
returns-in-None-match_argument-clause-value c =
    no_following_after 44 c.args.s.now _ c.in-Some.ensures.value c.in-None-match_argument.ensures.value

pub returns-in-Some-match_argument-clause-value : goal.returns-in-Some-match_argument-clause-value
returns-in-Some-match_argument-clause-value c =
    following_ends 44 c.args.s.now _ _ _ c.in-Some.ensures.value c.in-Some-match_argument.ensures.value.match
