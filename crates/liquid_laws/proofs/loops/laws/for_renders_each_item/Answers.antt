use Rattle.liquid_laws.proofs.ForWriteLemmas.{for_runs}
use Rattle.liquid_laws.proofs.loops.laws.for_renders_each_item.Goals as goal

pub returns : goal.returns
returns g c = λ fresh m. for_runs _ fresh m
