use Rattle.std.proofs.Common.{◌≡◌, take, drop}
use Rattle.liquid_value.specs.meaning.Cow.{cow_view}
use Rattle.liquid_value.specs.meaning.View.{view}
use Rattle.liquid_paths.specs.meaning.Walk.{find_after}
use Rattle.liquid_paths.specs.meaning.PathOf.{indexes_of}
use Rattle.liquid_paths.specs.meaning.InPlace.{InPlace}
use Rattle.liquid_paths.proofs.walks.find_after.Given as goal

abbrev pub invariant-loop-place : goal.invariant-loop-place
invariant-loop-place l =
    (find_after (indexes_of (take l.front l.path)) (view l.value) (indexes_of (drop l.front l.path)) ≡ find_after
    (indexes_of (take l.place l.path)) (cow_view l.at) (indexes_of (drop l.place l.path))) × InPlace l.at
