use Rattle.liquid_std.proofs.SandboxLemmas.{standard_agrees}
use Rattle.liquid_std.proofs.laws.outsides_agree_on_the_standard.Goals as goal

pub returns : goal.returns
returns g c = λ fresh m. standard_agrees _ fresh m
