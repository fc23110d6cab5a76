-- The sum of a list.
use Rattle.std.specs.Prelude.{ℕ, List, [], ◌∷◌, Option, Result, Ok}
use Rattle.liquid_decimals.specs.meaning.Dec.{Dec}
use Rattle.liquid_error.specs.meaning.Refusal.{Refusal, ok_then}
use Rattle.liquid_value.specs.meaning.Tree.{Tree}
use Rattle.liquid_filters.specs.meaning.value.Decimals.{decimal, limited_decimal}
use Rattle.liquid_filters.specs.meaning.value.Items.{flat}
use Rattle.liquid_filters.specs.meaning.list.DecimalSums.{sum_of}
use Rattle.liquid_filters.specs.meaning.list.Keys.{key_of, optional_name}

-- the number of each key, or the first error
abbrev pub numbers : Option (List ℕ) → List Tree → Result (List Dec) Refusal
numbers name [] = Ok []
numbers name (t ∷ ts) = ok_then (ok_then (key_of name t) decimal) (λ d. ok_then (numbers name ts) (λ ds. Ok (d ∷ ds)))

-- the sum of the items, or of the property that the argument names
abbrev pub summed : Tree → List Tree → Result Tree Refusal
summed input arguments =
    ok_then (optional_name arguments) (λ name. ok_then (numbers name (flat input)) (λ ds. limited_decimal (sum_of ds)))
