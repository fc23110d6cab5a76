use Rattle.liquid_laws.proofs.ForWriteLemmas.{for_writes}
use Rattle.liquid_laws.proofs.loops.laws.for_writes_its_bodies.Goals as goal

pub returns : goal.returns
returns g c = λ fresh m. for_writes _ fresh m
