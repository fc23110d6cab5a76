-- Whether the value that a path leads to is borrowed in place, or made.
use Rattle.std.specs.Prelude.{◌≡◌, ◌⊎◌, ⊤, ℕ, Some}
use Rattle.liquid_paths.specs.meaning.InPlace.{IsNumber}
use Rattle.liquid_paths.specs.meaning.Walk.{Path, walk}
use Rattle.liquid_value.specs.declared.cow.ValueCow.{ValueCow}
use Rattle.liquid_value.specs.declared.cow.ValueCow.TheVariants.{Owned, Borrowed}
use Rattle.liquid_value.specs.meaning.Tree.{Tree}
use Rattle.liquid_value.specs.meaning.View.{view}
use Rattle.liquid_runtime.specs.meaning.LoopNames.{forloop}

-- an object `forloop`, or what a path from one leads to
abbrev pub OfLoop : Tree → Type 0
OfLoop t = (place : ℕ) × (size : ℕ) × (path : Path) × (walk (forloop place size) path ≡ Some t)

-- the value is borrowed in place; only a size, an object `forloop` and what that has are made
abbrev pub InPlaceOrMade : ValueCow → Type 0
InPlaceOrMade (Borrowed value) = ⊤
InPlaceOrMade (Owned value) = IsNumber (view value) ⊎ OfLoop (view value)
