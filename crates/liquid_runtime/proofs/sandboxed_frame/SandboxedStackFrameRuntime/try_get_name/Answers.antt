use Rattle.std.proofs.Common.{sym, ◌∙◌, option_map, string_bytes}
use Rattle.liquid_runtime.specs.meaning.Maps.{names_of}
use Rattle.liquid_runtime.proofs.FrameLaws.{lookup_sandboxed}
use Rattle.liquid_runtime.proofs.sandboxed_frame.SandboxedStackFrameRuntime.try_get_name.Goals as goal

pub returns : goal.returns
returns g c =
    let f = c.args.self.now in c.seen_of.ensures ∙ sym (lookup_sandboxed (g.P.Register.Fresh.shape f.registers.value) (names_of f.names)
    (option_map (λ s. string_bytes s) f.name) (g.P.Runtime.view f.parent) c.args.name.now)
