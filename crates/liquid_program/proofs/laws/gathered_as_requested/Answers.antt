use Rattle.liquid_program.proofs.TogetherLemmas.{gathered_as_requested}
use Rattle.liquid_program.proofs.laws.gathered_as_requested.Goals as goal

pub returns : goal.returns
returns c = gathered_as_requested
