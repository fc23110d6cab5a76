use Rattle.liquid_laws.proofs.ChosenLemmas.{goes_over_chosen}
use Rattle.liquid_laws.proofs.loops.laws.loop_goes_over_chosen.Goals as goal

pub returns : goal.returns
returns g c = goes_over_chosen
