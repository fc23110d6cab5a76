use Rattle.liquid_template.proofs.Isolation.{outsides_agree}
use Rattle.liquid_template.proofs.laws.outsides_agree.Goals as goal

pub returns : goal.returns
returns g c = λ s. outsides_agree s
