use Rattle.liquid_tags.proofs.SandboxLemmas.{library_agrees}
use Rattle.liquid_tags.proofs.laws.outsides_agree_on_the_library.Goals as goal

pub returns : goal.returns
returns g c = library_agrees
