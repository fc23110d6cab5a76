use Rattle.liquid_runtime.specs.meaning.Calls.{shaped}
use Rattle.liquid_runtime.proofs.FrameLookups.{roots_core}
use Rattle.liquid_runtime.proofs.runtime_core.RuntimeCoreRuntime.roots.Goals as goal

pub returns : goal.returns
returns g c =
    roots_core (shaped g.V.Fresh.shape c.args.self.now.registers) c.args.self.now.depth c.args.self.now.lenient c.new.result
    c.new.ensures.empty
