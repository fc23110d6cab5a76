use Rattle.std.proofs.Common.{option_map, string_bytes}
use Rattle.liquid_runtime.specs.meaning.Maps.{names_of}
use Rattle.liquid_runtime.specs.meaning.NamesSeen.{names_seen}
use Rattle.liquid_runtime.specs.meaning.Roots.{NamesOf, NamesOver}
use Rattle.liquid_runtime.specs.meaning.Frames.{begin_stack}
use Rattle.liquid_runtime.proofs.FrameLookups.{roots_stack, if_ok}
use Rattle.liquid_runtime.proofs.stack_frame.StackFrameRuntime.roots.Goals as goal

pub returns : goal.returns
returns g c =
    let f = c.args.self.now in
    let n = option_map (λ s. string_bytes s) f.name in
    let v = g.P.Runtime.view f.parent in
    if_ok c.add_names.result (λ set. NamesOver (names_of f.names) c.in_ok-below.below set)
    (λ set. NamesOf (names_seen (begin_stack (names_of f.names) n v)) set)
    (λ set is. roots_stack (names_of f.names) n v c.in_ok-below.below set is c.in_ok-below.ensures) c.add_names.ensures
