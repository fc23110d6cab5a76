use Rattle.liquid_grammar.specs.meaning.Faults.{token_fault}
use Rattle.liquid_grammar.proofs.MatchLemmas.{matches_from_scan}
use Rattle.liquid_grammar.proofs.TokenExact.{exact-token}
use Rattle.liquid_grammar.proofs.matching.match_token.Goals as goal

pub returns-clause-value : goal.returns-clause-value
returns-clause-value c = matches_from_scan exact-token token_fault c.args.s.now _ c.token.ensures.value
