use Rattle.liquid_tags.proofs.LoopRunLemmas.{loop_runs}
use Rattle.liquid_tags.proofs.laws.loop_renders_each_item.Goals as goal

pub returns : goal.returns
returns g c = loop_runs
