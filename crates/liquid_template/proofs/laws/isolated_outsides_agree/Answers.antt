use Rattle.liquid_template.proofs.IsolatedFrames.{isolated_agree}
use Rattle.liquid_template.proofs.laws.isolated_outsides_agree.Goals as goal

pub returns : goal.returns
returns g c = λ s. isolated_agree s
