use Rattle.liquid_runtime.specs.meaning.Calls.{shaped}
use Rattle.liquid_runtime.specs.meaning.Maps.{names_of}
use Rattle.liquid_runtime.specs.meaning.NamesSeen.{names_seen}
use Rattle.liquid_runtime.specs.meaning.Roots.{NamesOf, NamesOver}
use Rattle.liquid_runtime.specs.steps.FrameViews.{core_with, indexed_view}
use Rattle.liquid_runtime.proofs.FrameLookups.{roots_indexed, if_ok}
use Rattle.liquid_runtime.proofs.index_frame.IndexFrameRuntime.roots.Goals as goal

pub returns : goal.returns
returns g c =
    let f = c.args.self.now in
    let r = shaped g.V.Fresh.shape f.parent.registers in
    let m = names_of f.variables in
    if_ok c.add_names.result (λ set. NamesOver m c.in_ok-below.below set)
    (λ set. NamesOf (names_seen (indexed_view m (core_with r f.parent.depth f.parent.lenient))) set)
    (λ set is. roots_indexed m r f.parent.depth f.parent.lenient c.in_ok-below.below set is c.in_ok-below.ensures) c.add_names.ensures
