use Rattle.liquid_explain.proofs.values.+nested_stop.Given as goal

abbrev pub decreases-nested_stop : goal.decreases-nested_stop
decreases-nested_stop l = l.depth
