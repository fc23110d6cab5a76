use Rattle.liquid_grammar.specs.meaning.Faults.{argument_fault}
use Rattle.liquid_grammar.proofs.MatchLemmas.{matches_from_scan}
use Rattle.liquid_grammar.proofs.TokenExact.{exact-argument}
use Rattle.liquid_grammar.proofs.matching.match_argument.Goals as goal

pub returns-clause-value : goal.returns-clause-value
returns-clause-value c = matches_from_scan exact-argument argument_fault c.args.s.now _ c.argument.ensures.value
