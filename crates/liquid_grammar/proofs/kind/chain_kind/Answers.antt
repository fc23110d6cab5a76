use Rattle.liquid_grammar.proofs.KindLemmas.{chain_kind_found}
use Rattle.liquid_grammar.proofs.kind.chain_kind.Goals as goal

pub returns : goal.returns
returns c = chain_kind_found c.args.s.now _ c.kind_of_chain.ensures
