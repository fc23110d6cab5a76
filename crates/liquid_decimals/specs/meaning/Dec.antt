-- What a decimal means.
use Rattle.std.specs.Prelude.{◌≡◌, ℕ, ℤ, pos, neg_ℤ, ◌-◌, ◌*ℤ◌, ◌^◌, Bool, ◌&&◌, Option, Some, None, nat_le, if◌then◌else◌}
use Rattle.std.specs.Int.Signed.{le_z}
use Rattle.liquid_decimals.specs.declared.decimal.Decimal.{Decimal}

-- a decimal: its mantissa, and its scale, which is the number of digits after the point. It means mantissa / 10^scale
abbrev pub Dec : Type 0
Dec = ℤ × ℕ

-- what a value of the type means
abbrev pub dec : Decimal → Dec
dec d = (d.mantissa, d.scale)

-- two decimals mean the same number
abbrev pub SameValue : Dec → Dec → Type 0
SameValue a b = a.0 *ℤ pos (10 ^ b.1) ≡ b.0 *ℤ pos (10 ^ a.1)

-- the greatest scale
abbrev pub greatest_scale : ℕ
greatest_scale = 18

-- whether a number is from -2^63 to 2^63 - 1
abbrev pub is_mantissa : ℤ → Bool
is_mantissa m = le_z (neg_ℤ (pos (2 ^ 63))) m && le_z m (pos (2 ^ 63 - 1))

-- the decimal of this mantissa and scale, if both are within their limits
abbrev pub limited : ℤ → ℕ → Option Dec
limited m s = if nat_le s greatest_scale && is_mantissa m then Some (m, s) else None

-- a magnitude with its sign
abbrev pub signed : Bool → ℕ → ℤ
signed minus n = if minus then neg_ℤ (pos n) else pos n
