use Rattle.std.proofs.Common.{option_map, string_bytes}
use Rattle.liquid_runtime.specs.meaning.Calls.{shaped}
use Rattle.liquid_runtime.specs.meaning.Maps.{names_of}
use Rattle.liquid_runtime.specs.meaning.NamesSeen.{names_seen}
use Rattle.liquid_runtime.specs.meaning.Roots.{NamesOf, NamesOver}
use Rattle.liquid_runtime.specs.steps.FrameViews.{sandboxed_with}
use Rattle.liquid_runtime.proofs.FrameLookups.{roots_sandboxed, if_ok}
use Rattle.liquid_runtime.proofs.sandboxed_frame.SandboxedStackFrameRuntime.roots.Goals as goal

pub returns : goal.returns
returns g c =
    let f = c.args.self.now in
    let n = option_map (λ s. string_bytes s) f.name in
    let v = g.P.Runtime.view f.parent in
    let r = shaped g.P.Register.Fresh.shape f.registers in
    if_ok c.add_names.result (λ set. NamesOver (names_of f.names) c.new.result set)
    (λ set. NamesOf (names_seen (sandboxed_with r (names_of f.names) n v)) set)
    (λ set is. roots_sandboxed r (names_of f.names) n v c.new.result set is c.new.ensures.empty) c.add_names.ensures
