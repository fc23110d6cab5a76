use Rattle.liquid_laws.proofs.ReadLemmas.{reads_images}
use Rattle.liquid_laws.proofs.superset.laws.standard_reads_the_library.Goals as goal

pub returns : goal.returns
returns g c = λ filters. reads_images filters
