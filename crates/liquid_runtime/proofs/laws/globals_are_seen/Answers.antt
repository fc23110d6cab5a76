use Rattle.liquid_runtime.proofs.SetLaws.{globals_seen}
use Rattle.liquid_runtime.proofs.laws.globals_are_seen.Goals as goal

pub returns : goal.returns
returns g c = globals_seen
