use Rattle.std.proofs.Common.{◌≡◌, ℕ, List, ◌++◌, drop}
use Rattle.std.specs.Fmt.{HasWritten, IsPlainFormatter}
use Rattle.std.specs.List.{flat_map}
use Rattle.liquid_paths.specs.meaning.PathOf.{indexes_of, dotted}
use Rattle.liquid_paths.proofs.path.write_rest.Given as goal

abbrev pub invariant-loop-index : goal.invariant-loop-index
invariant-loop-index g l =
    (done : List ℕ) × (flat_map dotted (indexes_of l.indexes) ≡ done ++ flat_map dotted (indexes_of (drop l.index-index l.indexes)))
    × (IsPlainFormatter l.initial.f → HasWritten g.W.Write.write_str_gives l.initial.f done l.f)
