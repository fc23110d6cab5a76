use Rattle.liquid_std.proofs.SandboxLemmas.{standard_isolated}
use Rattle.liquid_std.proofs.laws.standard_is_isolated.Goals as goal

pub returns : goal.returns
returns g c = λ fresh m. standard_isolated _ fresh m
