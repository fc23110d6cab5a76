use Rattle.liquid_grammar.specs.meaning.Meanings.{literal_of}
use Rattle.liquid_grammar.proofs.MatchLemmas.{finds_from_found}
use Rattle.liquid_grammar.proofs.TokenExact.{exact-literal}
use Rattle.liquid_grammar.proofs.matching.match_literal.Goals as goal

pub returns-clause-value : goal.returns-clause-value
returns-clause-value c = finds_from_found exact-literal literal_of c.args.s.now _ c.read_literal.ensures.value
