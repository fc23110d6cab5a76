use Rattle.liquid_laws.proofs.ForRunLemmas.{takes_else}
use Rattle.liquid_laws.proofs.loops.laws.for_takes_else.Goals as goal

pub returns : goal.returns
returns g c = takes_else
