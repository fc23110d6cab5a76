-- A string as a value.
use Rattle.std.specs.Prelude.{ℕ, List}
use Rattle.liquid_scalar.specs.meaning.Scalar.{text}
use Rattle.liquid_value.specs.meaning.Tree.{Tree, scalar}

abbrev pub written : List ℕ → Tree
written bytes = scalar (text bytes)
