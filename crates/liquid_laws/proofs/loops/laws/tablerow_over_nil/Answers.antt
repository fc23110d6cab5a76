use Rattle.liquid_laws.proofs.TableRunLemmas.{nil_runs}
use Rattle.liquid_laws.proofs.loops.laws.tablerow_over_nil.Goals as goal

pub returns : goal.returns
returns g c = λ fresh m. nil_runs _ fresh m
