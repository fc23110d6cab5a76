use Rattle.std.proofs.Common.{◌≡◌, drop}
use Rattle.liquid_value.specs.meaning.Cow.{cow_view}
use Rattle.liquid_value.specs.meaning.View.{view}
use Rattle.liquid_paths.specs.meaning.Walk.{walk}
use Rattle.liquid_paths.specs.meaning.PathOf.{indexes_of}
use Rattle.liquid_paths.specs.meaning.InPlace.{InPlace}
use Rattle.liquid_paths.proofs.walks.try_find.Given as goal

abbrev pub invariant-loop-index : goal.invariant-loop-index
invariant-loop-index l =
    (walk (view l.value) (indexes_of l.path) ≡ walk (cow_view l.at) (indexes_of (drop l.index-index l.path))) × InPlace l.at
