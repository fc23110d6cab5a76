-- Whether the value that `get` returns is borrowed in place.
use Rattle.std.specs.Prelude.{◌≡◌, ◌⊎◌, ⊤}
use Rattle.liquid_paths.specs.meaning.InPlace.{IsNumber}
use Rattle.liquid_value.specs.declared.cow.ValueCow.{ValueCow}
use Rattle.liquid_value.specs.declared.cow.ValueCow.TheVariants.{Owned, Borrowed}
use Rattle.liquid_value.specs.meaning.Tree.{nil}
use Rattle.liquid_value.specs.meaning.View.{view}
use Rattle.liquid_runtime.specs.meaning.Made.{OfLoop}

-- the value is borrowed in place; only a size, what a loop says, or the nil of a path without a value, is made
abbrev pub InPlaceOrNil : ValueCow → Type 0
InPlaceOrNil (Borrowed value) = ⊤
InPlaceOrNil (Owned value) = (IsNumber (view value) ⊎ OfLoop (view value)) ⊎ (view value ≡ nil)
