-- Sums, differences, products, remainders and the order of decimals.
use Rattle.std.specs.Prelude.{
  ℕ,
  ℤ,
  pos,
  negsuc,
  suc,
  neg_ℤ,
  ◌+◌,
  ◌-◌,
  ◌+ℤ◌,
  ◌-ℤ◌,
  ◌*ℤ◌,
  ◌^◌,
  max,
  Option,
  None,
  unsigned_abs,
  ◌==◌,
  if◌then◌else◌,
}
use Rattle.std.specs.Int.{int_div_euclid}
use Rattle.std.specs.Ordering.{int_cmp}
use Rattle.std.specs.declared.cmp.Ordering.{Ordering}
use Rattle.liquid_decimals.specs.meaning.Dec.{Dec, limited}

-- the mantissa of a decimal that is rewritten with this number of digits after the point, which is no less than its own
abbrev pub mantissa_at : ℕ → Dec → ℤ
mantissa_at scale d = d.0 *ℤ pos (10 ^ (scale - d.1))

-- the greater scale
abbrev pub shared_scale : Dec → Dec → ℕ
shared_scale a b = max a.1 b.1

-- the sum and the difference, with the greater scale
abbrev pub plus : Dec → Dec → Option Dec
plus a b = limited (mantissa_at (shared_scale a b) a +ℤ mantissa_at (shared_scale a b) b) (shared_scale a b)

abbrev pub minus : Dec → Dec → Option Dec
minus a b = limited (mantissa_at (shared_scale a b) a -ℤ mantissa_at (shared_scale a b) b) (shared_scale a b)

-- the product, with as many digits after the point as both together
abbrev pub times : Dec → Dec → Option Dec
times a b = limited (a.0 *ℤ b.0) (a.1 + b.1)

-- a / b rounded down, where b is not 0: by a divisor above 0, the quotient with a remainder that is not negative
abbrev pub floor_quotient : ℤ → ℤ → ℤ
floor_quotient a (pos b) = int_div_euclid a (pos b)
floor_quotient a (negsuc b) = int_div_euclid (neg_ℤ a) (pos (suc b))

-- the remainder of a for that quotient
abbrev pub floor_remainder : ℤ → ℤ → ℤ
floor_remainder a b = a -ℤ b *ℤ floor_quotient a b

-- the remainder for the quotient rounded down, with the greater scale; none by 0
abbrev pub modulo : Dec → Dec → Option Dec
modulo a b = if unsigned_abs b.0 == 0 then None else
    limited (floor_remainder (mantissa_at (shared_scale a b) a) (mantissa_at (shared_scale a b) b)) (shared_scale a b)

-- the distance from zero
abbrev pub abs : Dec → Option Dec
abs d = limited (pos (unsigned_abs d.0)) d.1

-- the order of the numbers that two decimals mean
abbrev pub compare : Dec → Dec → Ordering
compare a b = int_cmp (a.0 *ℤ pos (10 ^ b.1)) (b.0 *ℤ pos (10 ^ a.1))

-- the decimal of a mantissa times a power of ten
abbrev pub power_of_ten_times : ℤ → ℤ → Option Dec
power_of_ten_times m (pos exponent) = limited (m *ℤ pos (10 ^ exponent)) 0
power_of_ten_times m (negsuc exponent) = limited m (suc exponent)
