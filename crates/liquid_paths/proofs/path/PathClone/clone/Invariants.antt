use Rattle.std.proofs.Common.{◌≡◌, take}
use Rattle.liquid_paths.specs.meaning.PathOf.{indexes_of}
use Rattle.liquid_paths.proofs.path.PathClone.clone.Given as goal

abbrev pub invariant-loop-index : goal.invariant-loop-index
invariant-loop-index l = indexes_of l.indexes.items ≡ indexes_of (take l.index-index l.index-items)
