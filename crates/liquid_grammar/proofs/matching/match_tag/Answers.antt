use Rattle.liquid_grammar.proofs.CoverLemmas.{tag_found, no_tag}
use Rattle.liquid_grammar.proofs.matching.match_tag.Goals as goal

pub returns-in-Some-clause-value : goal.returns-in-Some-clause-value
returns-in-Some-clause-value c =
    let found = tag_found c.args.s.now _ _ c.in-Some.found.rest.now _ c.in-Some.ensures.value in
    record { shape = found.0; match = found.1; is = found.4 }

pub returns-in-None-clause-value : goal.returns-in-None-clause-value
returns-in-None-clause-value c = no_tag c.args.s.now c.in-None.ensures.value
