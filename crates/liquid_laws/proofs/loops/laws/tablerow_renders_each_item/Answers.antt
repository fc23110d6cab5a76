use Rattle.liquid_laws.proofs.TableRunLemmas.{table_runs}
use Rattle.liquid_laws.proofs.loops.laws.tablerow_renders_each_item.Goals as goal

pub returns : goal.returns
returns g c = λ fresh m. table_runs _ fresh m
