use Rattle.liquid_explain.proofs.RuleLemmas.{no_following, no_following_after, following_ends}
use Rattle.liquid_explain.proofs.filters.next_filter.Goals as goal

pub returns-in-None-clause-value : goal.returns-in-None-clause-value
returns-in-None-clause-value c = no_following 124 c.args.s.now c.in-None.ensures.value

pub returns-in-None-match_filter-clause-value : goal.returns-in-None-match_filter-clause-value
returns-in-None-match_filter-clause-value c =
    no_following_after 124 c.args.s.now _ c.in-Some.ensures.value c.in-None-match_filter.ensures.value

pub returns-in-Some-match_filter-clause-value : goal.returns-in-Some-match_filter-clause-value
returns-in-Some-match_filter-clause-value c =
    following_ends 124 c.args.s.now _ _ _ c.in-Some.ensures.value c.in-Some-match_filter.ensures.value.match
