use Rattle.liquid_grammar.proofs.KindLemmas.{identifier_is, variable_is}
use Rattle.liquid_grammar.proofs.ValueScan.{variable_end, variable_more}
use Rattle.liquid_grammar.proofs.value.match_indexes.Goals as goal

pub returns-in-Some-clause-kind : goal.returns-in-Some-clause-kind
returns-in-Some-clause-kind c s none e =
    variable_is s c.args.rest.now _ _ c.args.name.now _ _ none e c.in-Some.ensures.value c.indexes.ensures.value

pub returns-in-Some-clause-value : goal.returns-in-Some-clause-value
returns-in-Some-clause-value c s none e =
    variable_more s c.args.rest.now _ _ c.args.name.now _ _ _ c.or.ensures none e c.in-Some.ensures.value c.indexes.ensures.value

pub returns-in-None-clause-kind : goal.returns-in-None-clause-kind
returns-in-None-clause-kind c s none e = identifier_is s c.args.rest.now c.args.name.now none e c.in-None.ensures.value

pub returns-in-None-clause-value : goal.returns-in-None-clause-value
returns-in-None-clause-value c s none e = variable_end s c.args.rest.now c.args.name.now none e c.in-None.ensures.value
