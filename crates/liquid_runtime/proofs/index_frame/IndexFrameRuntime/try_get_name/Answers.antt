use Rattle.std.proofs.Common.{sym, ◌∙◌}
use Rattle.liquid_runtime.specs.meaning.Calls.{shaped}
use Rattle.liquid_runtime.specs.meaning.Maps.{names_of}
use Rattle.liquid_runtime.proofs.FrameLookups.{lookup_indexed}
use Rattle.liquid_runtime.proofs.index_frame.IndexFrameRuntime.try_get_name.Goals as goal

pub returns : goal.returns
returns g c =
    let f = c.args.self.now in c.seen_of.ensures ∙ sym (lookup_indexed (names_of f.variables)
    (shaped g.V.Fresh.shape f.parent.registers) f.parent.depth f.parent.lenient c.args.name.now)
