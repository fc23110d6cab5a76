use Rattle.liquid_grammar.proofs.CoverLemmas.{expression_found, no_expression}
use Rattle.liquid_grammar.proofs.matching.match_expression.Goals as goal

pub returns-in-Some-clause-value : goal.returns-in-Some-clause-value
returns-in-Some-clause-value c =
    let found = expression_found c.args.s.now _ c.in-Some.rest.now _ _ c.in-Some.ensures.kind c.in-Some.ensures.value in
    record { shape = found.0; match = found.1; is = found.3 }

pub returns-in-None-clause-value : goal.returns-in-None-clause-value
returns-in-None-clause-value c = no_expression c.args.s.now c.in-None.ensures.value
