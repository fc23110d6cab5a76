-- What a kind of filter means.
use Rattle.std.specs.Prelude.{ℕ, List, Bool, Result}
use Rattle.liquid_error.specs.meaning.Refusal.{Refusal}
use Rattle.liquid_value.specs.meaning.Tree.{Tree}
use Rattle.liquid_filters.specs.meaning.Given.{Given}

-- the name; for each positional argument whether it may be left out; the keywords; what it makes of an input and
-- arguments
pub record FilterSense : Type 0 where
  pub name : List ℕ
  pub optional : List Bool
  pub keywords : List (List ℕ)
  pub answers : Tree → Given → Result Tree Refusal
