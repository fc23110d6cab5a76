use Rattle.liquid_grammar.proofs.bracket.turn.Goals as goal

pub returns-in-Value-clause-same : goal.returns-in-Value-clause-same
returns-in-Value-clause-same c = c.at_value.ensures.same
