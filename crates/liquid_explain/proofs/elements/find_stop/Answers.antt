use Rattle.liquid_explain.proofs.FarthestLemmas.{either_far}
use Rattle.liquid_explain.proofs.elements.find_stop.Goals as goal

pub returns : goal.returns
returns c = either_far c.args.s.now _ _ _ c.farther.ensures c.expression_stop-first.ensures c.tag_stop-second.ensures
