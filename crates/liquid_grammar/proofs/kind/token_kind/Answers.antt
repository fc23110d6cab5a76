use Rattle.liquid_grammar.proofs.KindLemmas.{range_has_kind, chain_has_kind, symbol_has_kind, no_token}
use Rattle.liquid_grammar.proofs.kind.token_kind.Goals as goal

pub returns-in-Some : goal.returns-in-Some
returns-in-Some c = range_has_kind c.args.s.now _ _ c.in-Some.ensures.value

pub returns-in-Some-kind_of_chain : goal.returns-in-Some-kind_of_chain
returns-in-Some-kind_of_chain c = chain_has_kind c.args.s.now c.in-Some-kind_of_chain.kind c.in-None.ensures.value
    c.in-Some-kind_of_chain.ensures

pub returns-in-Some-symbol : goal.returns-in-Some-symbol
returns-in-Some-symbol c = symbol_has_kind c.args.s.now _ c.in-None.ensures.value c.in-None-kind_of_chain.ensures
    c.in-Some-symbol.ensures.value

pub returns-in-None-symbol : goal.returns-in-None-symbol
returns-in-None-symbol c = no_token c.args.s.now c.in-None.ensures.value c.in-None-kind_of_chain.ensures c.in-None-symbol.ensures.value
