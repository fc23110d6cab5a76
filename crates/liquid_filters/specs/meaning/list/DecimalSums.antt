-- The sum of decimals.
use Rattle.std.specs.Prelude.{ℕ, ℤ, pos, ◌+ℤ◌, List, [], ◌∷◌, max, Option}
use Rattle.liquid_decimals.specs.meaning.Arithmetic.{mantissa_at}
use Rattle.liquid_decimals.specs.meaning.Dec.{Dec, limited}

-- the greatest scale of decimals; of none it is 0
abbrev pub greatest_scale : List Dec → ℕ
greatest_scale [] = 0
greatest_scale (d ∷ ds) = max d.1 (greatest_scale ds)

-- the sum of the mantissas that decimals have with this number of digits after the point
abbrev pub sum_at : ℕ → List Dec → ℤ
sum_at scale [] = pos 0
sum_at scale (d ∷ ds) = mantissa_at scale d +ℤ sum_at scale ds

-- the exact sum, with the greatest scale
abbrev pub sum_of : List Dec → Option Dec
sum_of ds = limited (sum_at (greatest_scale ds) ds) (greatest_scale ds)
