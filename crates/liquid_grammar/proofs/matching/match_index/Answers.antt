use Rattle.liquid_grammar.specs.meaning.Faults.{index_fault}
use Rattle.liquid_grammar.proofs.MatchLemmas.{matches_from_scan}
use Rattle.liquid_grammar.proofs.TokenExact.{exact-index, exact-value}
use Rattle.liquid_grammar.proofs.matching.match_index.Goals as goal

pub returns-clause-value : goal.returns-clause-value
returns-clause-value c = matches_from_scan (exact-index exact-value) (index_fault 0) c.args.s.now _ c.index.ensures.value
