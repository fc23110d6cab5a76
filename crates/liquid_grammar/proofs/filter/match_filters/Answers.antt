use Rattle.liquid_grammar.proofs.KindLemmas.{filtered_is, unfiltered_is}
use Rattle.liquid_grammar.proofs.Scanning.{chain_more, chain_end}
use Rattle.liquid_grammar.proofs.filter.match_filters.Goals as goal

pub returns-in-Some-clause-kind : goal.returns-in-Some-clause-kind
returns-in-Some-clause-kind c s e = filtered_is s _ _ _ _ e c.in-Some.ensures.value

pub returns-in-Some-clause-value : goal.returns-in-Some-clause-value
returns-in-Some-clause-value c s e = chain_more s _ _ _ _ _ _ _ _ c.or.ensures c.or-in-Some.ensures e c.in-Some.ensures.value
    c.filters.ensures.value

pub returns-in-None-clause-kind : goal.returns-in-None-clause-kind
returns-in-None-clause-kind c s e = unfiltered_is s _ _ e c.in-None.ensures.value

pub returns-in-None-clause-value : goal.returns-in-None-clause-value
returns-in-None-clause-value c s e = chain_end s _ _ e c.in-None.ensures.value
