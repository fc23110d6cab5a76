use Rattle.liquid_partials.proofs.AgreeLemmas.{few_readings}
use Rattle.liquid_partials.proofs.laws.few_readings.Goals as goal

pub returns : goal.returns
returns g c = few_readings _
