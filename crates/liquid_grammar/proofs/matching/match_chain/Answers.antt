use Rattle.liquid_grammar.specs.meaning.Faults.{chain_fault}
use Rattle.liquid_grammar.proofs.MatchLemmas.{matches_from_scan}
use Rattle.liquid_grammar.proofs.TokenExact.{exact-chain}
use Rattle.liquid_grammar.proofs.matching.match_chain.Goals as goal

pub returns-clause-value : goal.returns-clause-value
returns-clause-value c = matches_from_scan exact-chain chain_fault c.args.s.now _ c.chain.ensures.value
