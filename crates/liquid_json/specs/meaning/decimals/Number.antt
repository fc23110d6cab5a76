-- The value of a number of JSON, which is an integer or a decimal.
use Rattle.std.specs.Prelude.{
  ℕ,
  ◌+◌,
  ◌-ℤ◌,
  pos,
  List,
  [],
  ◌∷◌,
  take,
  drop,
  Bool,
  ◌||◌,
  ◌==◌,
  codes,
  Option,
  None,
  Some,
  is_none,
  Result,
  Ok,
  Err,
  if◌then◌else◌,
}
use Rattle.std.specs.List.{position}
use Rattle.liquid_error.specs.meaning.Refusal.{Refusal, plain}
use Rattle.liquid_scalar.specs.meaning.Scalar.{integer, text}
use Rattle.liquid_value.specs.meaning.Tree.{Tree, scalar}
use Rattle.liquid_decimals.specs.meaning.Arithmetic.{power_of_ten_times}
use Rattle.liquid_decimals.specs.meaning.Dec.{Dec}
use Rattle.liquid_decimals.specs.meaning.Text.{decimal_of_text}
use Rattle.liquid_decimals.specs.meaning.Written.{written}

-- `e` or `E`, and a point
abbrev pub is_mark : ℕ → Bool
is_mark c = (c == 101) || (c == 69)

abbrev pub is_point_or_mark : ℕ → Bool
is_point_or_mark c = (c == 46) || is_mark c

-- a number without a point and an exponent
abbrev pub is_integer : List ℕ → Bool
is_integer number = is_none (position is_point_or_mark number)

abbrev pub without_plus : List ℕ → List ℕ
without_plus [] = []
without_plus (c ∷ cs) = if c == 43 then cs else c ∷ cs

-- a decimal times the power of ten that another one is
abbrev pub times_power : Option Dec → Option Dec → Option Dec
times_power (Some d) (Some e) = power_of_ten_times d.0 (e.0 -ℤ pos d.1)
times_power d e = None

-- the decimal of the text before an exponent and of the exponent
abbrev pub with_exponent : List ℕ → List ℕ → Option Dec
with_exponent front exponent = times_power (decimal_of_text front) (decimal_of_text (without_plus exponent))

-- the decimal of a number whose exponent begins at this mark, if it has one
abbrev pub decimal_with_mark : List ℕ → Option ℕ → Option Dec
decimal_with_mark number None = decimal_of_text number
decimal_with_mark number (Some mark) = with_exponent (take mark number) (drop (mark + 1) number)

-- the decimal that a number is, by its value
abbrev pub decimal_of_number : List ℕ → Option Dec
decimal_of_number number = decimal_with_mark number (position is_mark number)

-- a decimal without digits after the point is an integer, and any other is its text
abbrev pub decimal_given : Dec → Result Tree Refusal
decimal_given d = if d.1 == 0 then Ok (scalar (integer d.0)) else Ok (scalar (text (written d)))

-- a number that is not a decimal does not fit, or is refused as fractional
abbrev pub refusal_of_number : List ℕ → Refusal
refusal_of_number number = if is_integer number then plain (codes "Cannot fit number") else plain (codes "Fractional number")

abbrev pub value_of_number : List ℕ → Option Dec → Result Tree Refusal
value_of_number number (Some d) = decimal_given d
value_of_number number None = Err (refusal_of_number number)

abbrev pub number_given : List ℕ → Result Tree Refusal
number_given number = value_of_number number (decimal_of_number number)
