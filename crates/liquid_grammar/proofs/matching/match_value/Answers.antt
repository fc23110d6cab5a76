use Rattle.liquid_grammar.specs.meaning.Faults.{value_fault}
use Rattle.liquid_grammar.proofs.MatchLemmas.{matches_from_scan}
use Rattle.liquid_grammar.proofs.TokenExact.{exact-value}
use Rattle.liquid_grammar.proofs.matching.match_value.Goals as goal

pub returns-clause-value : goal.returns-clause-value
returns-clause-value c = matches_from_scan exact-value value_fault c.args.s.now _ c.value.ensures.value
