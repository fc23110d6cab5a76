use Rattle.std.proofs.Common.{ℕ, List, Bor}
use Rattle.liquid_grammar.proofs.MatchLemmas.{finds_from_found}
use Rattle.liquid_grammar.proofs.GrammarExact.{exact-identifier}
use Rattle.liquid_grammar.proofs.matching.match_identifier.Goals as goal

pub returns-clause-value : goal.returns-clause-value
returns-clause-value c = finds_from_found exact-identifier (λ (x : Bor (List ℕ)). x.now) c.args.s.now _ c.identifier.ensures.value
