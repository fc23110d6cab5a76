use Rattle.liquid_laws.proofs.TableWriteLemmas.{table_writes}
use Rattle.liquid_laws.proofs.loops.laws.tablerow_writes_rows.Goals as goal

pub returns : goal.returns
returns g c = λ fresh m. table_writes _ fresh m
