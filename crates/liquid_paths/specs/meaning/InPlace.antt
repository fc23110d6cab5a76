-- Whether the value that a path leads to is borrowed in place.
use Rattle.std.specs.Prelude.{◌≡◌, ℤ, ⊤}
use Rattle.liquid_scalar.specs.meaning.Scalar.{integer}
use Rattle.liquid_value.specs.declared.cow.ValueCow.{ValueCow}
use Rattle.liquid_value.specs.declared.cow.ValueCow.TheVariants.{Owned, Borrowed}
use Rattle.liquid_value.specs.meaning.Tree.{Tree, scalar}
use Rattle.liquid_value.specs.meaning.View.{view}

-- an integer
abbrev pub IsNumber : Tree → Type 0
IsNumber t = (n : ℤ) × (t ≡ scalar (integer n))

-- the value is borrowed in place, or is a number made for `size`
abbrev pub InPlace : ValueCow → Type 0
InPlace (Borrowed value) = ⊤
InPlace (Owned value) = IsNumber (view value)
