use Rattle.liquid_laws.proofs.RunLemmas.{runs_images}
use Rattle.liquid_laws.proofs.superset.laws.standard_runs_the_library.Goals as goal

pub returns : goal.returns
returns g c = λ fresh m. runs_images _ fresh m
