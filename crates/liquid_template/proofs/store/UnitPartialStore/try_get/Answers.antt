use Rattle.std.proofs.Common.{sym}
use Rattle.liquid_template.proofs.NoPartials.{no_tree}
use Rattle.liquid_template.proofs.store.UnitPartialStore.try_get.Goals as goal

pub returns-clause-gives : goal.returns-clause-gives
returns-clause-gives g c = sym (no_tree c.args._name.now)
