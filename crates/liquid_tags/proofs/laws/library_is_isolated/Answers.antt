use Rattle.liquid_tags.proofs.SandboxLemmas.{library_isolated}
use Rattle.liquid_tags.proofs.laws.library_is_isolated.Goals as goal

pub returns : goal.returns
returns g c = library_isolated
