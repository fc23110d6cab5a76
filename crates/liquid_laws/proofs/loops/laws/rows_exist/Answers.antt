use Rattle.liquid_laws.proofs.RowsExist.{rows_exist}
use Rattle.liquid_laws.proofs.loops.laws.rows_exist.Goals as goal

pub returns : goal.returns
returns g c = rows_exist
