use Rattle.std.proofs.Common.{sym}
use Rattle.liquid_runtime.specs.meaning.Calls.{shaped}
use Rattle.liquid_runtime.proofs.FrameLookups.{lookup_core}
use Rattle.liquid_runtime.proofs.runtime_core.RuntimeCoreRuntime.try_get_name.Goals as goal

pub returns : goal.returns
returns g c =
    sym (lookup_core (shaped g.V.Fresh.shape c.args.self.now.registers) c.args.self.now.depth c.args.self.now.lenient c.args._name.now)
