use Rattle.liquid_grammar.specs.meaning.Faults.{filter_fault}
use Rattle.liquid_grammar.proofs.MatchLemmas.{matches_from_scan}
use Rattle.liquid_grammar.proofs.TokenExact.{exact-filter}
use Rattle.liquid_grammar.proofs.matching.match_filter.Goals as goal

pub returns-clause-value : goal.returns-clause-value
returns-clause-value c = matches_from_scan exact-filter filter_fault c.args.s.now _ c.filter.ensures.value
