use Rattle.liquid_grammar.proofs.PartLemmas.{rest_found, rest_only}
use Rattle.liquid_grammar.proofs.TokenExact.{exact-close_bracket}
use Rattle.liquid_grammar.proofs.parts.close_bracket.Goals as goal

pub returns-clause-found : goal.returns-clause-found
returns-clause-found c = rest_found exact-close_bracket c.args.s.now _ c.close_bracket.ensures.value

pub returns-clause-only : goal.returns-clause-only
returns-clause-only c = rest_only exact-close_bracket c.args.s.now _ c.close_bracket.ensures.value
