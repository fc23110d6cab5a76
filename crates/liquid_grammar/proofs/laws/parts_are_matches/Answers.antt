use Rattle.liquid_grammar.proofs.PartLemmas.{chain_parts, expression_chain, tag_tokens}
use Rattle.liquid_grammar.proofs.laws.parts_are_matches.Goals as goal

pub returns-clause-chains : goal.returns-clause-chains
returns-clause-chains c = chain_parts

pub returns-clause-expressions : goal.returns-clause-expressions
returns-clause-expressions c = expression_chain

pub returns-clause-tags : goal.returns-clause-tags
returns-clause-tags c = tag_tokens
