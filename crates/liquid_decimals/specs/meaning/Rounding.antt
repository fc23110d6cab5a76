-- Quotients rounded to the nearest integer.
use Rattle.std.specs.Prelude.{ℕ, ℤ, pos, neg_ℤ, ◌+◌, ◌-◌, ◌*◌, ◌/◌, ◌%◌, ◌^◌, Bool, not, ◌==◌, Option, None, unsigned_abs, if◌then◌else◌}
use Rattle.std.specs.Int.{int_div_euclid, is_negative}
use Rattle.liquid_decimals.specs.meaning.Dec.{Dec, limited, signed}

-- the quotient of two magnitudes rounded to the nearest integer, a half up
abbrev pub nearest : ℕ → ℕ → ℕ
nearest n d = (2 * n + d) / (2 * d)

-- whether the quotient of two numbers is below 0
abbrev pub differ_in_sign : ℤ → ℤ → Bool
differ_in_sign a b = if is_negative a then not (is_negative b) else is_negative b

-- a / b with this number of digits after the point, rounded to the nearest such decimal, a half away from zero; none by 0
abbrev pub divided_by : Dec → Dec → ℕ → Option Dec
divided_by a b scale = if unsigned_abs b.0 == 0 then None else
    limited (signed (differ_in_sign a.0 b.0) (nearest (unsigned_abs a.0 * 10 ^ b.1 * 10 ^ scale) (unsigned_abs b.0 * 10 ^ a.1))) scale

-- the nearest decimal with this number of digits after the point, a half away from zero
abbrev pub round : ℕ → Dec → Option Dec
round scale d = limited (signed (is_negative d.0) (nearest (unsigned_abs d.0 * 10 ^ scale) (10 ^ d.1))) scale

-- the nearest multiple of a power of ten, a half away from zero
abbrev pub round_to_power : ℕ → Dec → Option Dec
round_to_power power d = limited (signed (is_negative d.0) (nearest (unsigned_abs d.0) (10 ^ (d.1 + power)) * 10 ^ power)) 0

-- the greatest integer that is not above, and the least one that is not below
abbrev pub floor : Dec → ℤ
floor d = int_div_euclid d.0 (pos (10 ^ d.1))

abbrev pub ceil : Dec → ℤ
ceil d = neg_ℤ (int_div_euclid (neg_ℤ d.0) (pos (10 ^ d.1)))

-- whether a digit other than 0 would be lost with this number of digits after the point
abbrev pub loses_digits : ℕ → Dec → Bool
loses_digits scale d = not (unsigned_abs d.0 % 10 ^ (d.1 - scale) == 0)
