-- Numbers of a fixed number of digits.
use Rattle.std.specs.Prelude.{
  ℕ,
  ◌+◌,
  ◌-◌,
  ◌*◌,
  ◌^◌,
  ◌&&◌,
  nat_le,
  if◌then◌else◌,
  List,
  [],
  ◌∷◌,
  length,
  Option,
  Some,
  None,
  option_and_then,
}
use Rattle.std.specs.List.{list_all}
use Rattle.std.specs.Str.{byte}
use Rattle.liquid_dates.specs.meaning.Flags.{digits_number, is_digit}

-- what is made of a value, if there is one
infixl 10 ◌>>=◌
abbrev pub ◌>>=◌ : {A B : Type 0} → Option A → (A → Option B) → Option B
o >>= f = option_and_then f o

-- two digits
abbrev pub two_digits : ℕ → ℕ → Option ℕ
two_digits a b = if is_digit a && is_digit b then Some (10 * (a - byte "0") + (b - byte "0")) else None

-- two digits of a number below 60
abbrev pub sixtieths : ℕ → ℕ → Option ℕ
sixtieths a b = if is_digit a && (is_digit b && nat_le a (byte "5")) then Some (10 * (a - byte "0") + (b - byte "0")) else None

-- a number of one or two digits
abbrev pub short_number : List ℕ → Option ℕ
short_number (a ∷ []) = two_digits (byte "0") a
short_number (a ∷ b ∷ []) = two_digits a b
short_number other = None

-- a number of four digits
abbrev pub four_digits : List ℕ → Option ℕ
four_digits (a ∷ b ∷ c ∷ d ∷ []) = do
  century ← two_digits a b
  year ← two_digits c d
  Some (100 * century + year)
four_digits other = None

-- the number that these digits write, if they are digits
abbrev pub all_digits : List ℕ → Option ℕ
all_digits digits = if list_all is_digit digits then Some (digits_number digits) else None

-- one to nine digits of a fraction, in units of the ninth
abbrev pub ninths_place : List ℕ → Option ℕ
ninths_place digits =
    if nat_le 1 (length digits) && nat_le (length digits) 9
    then (all_digits digits >>= (λ n. Some (n * 10 ^ (9 - length digits)))) else None
