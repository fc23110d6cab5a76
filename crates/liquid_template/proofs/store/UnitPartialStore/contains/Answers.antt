use Rattle.std.proofs.Common.{is_some, ap, sym}
use Rattle.liquid_template.proofs.NoPartials.{no_name}
use Rattle.liquid_template.proofs.store.UnitPartialStore.contains.Goals as goal

pub returns : goal.returns
returns g c = ap is_some (sym (no_name c.args._name.now))
