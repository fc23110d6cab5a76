-- What the filters that calculate return.
use Rattle.std.specs.Prelude.{
  ℤ,
  int_lt,
  pos,
  ◌+ℤ◌,
  ◌-ℤ◌,
  ◌*ℤ◌,
  unsigned_abs,
  List,
  [],
  ◌∷◌,
  ◌&&◌,
  cond,
  Option,
  Result,
  Ok,
  Err,
  if◌then◌else◌,
}
use Rattle.std.specs.Int.{int_max, int_min}
use Rattle.std.specs.Ordering.{int_eq, is_lt}
use Rattle.liquid_decimals.specs.meaning.Arithmetic as decimals
use Rattle.liquid_decimals.specs.meaning.Dec.{Dec}
use Rattle.liquid_decimals.specs.meaning.Rounding as rounding
use Rattle.liquid_error.specs.meaning.Refusal.{Refusal, ok_then}
use Rattle.liquid_scalar.specs.meaning.Scalar.{integer}
use Rattle.liquid_value.specs.meaning.Tree.{Tree, scalar}
use Rattle.liquid_filters.specs.meaning.value.Decimals.{decimal, decimal_tree, is_whole, limited_decimal}
use Rattle.liquid_filters.specs.meaning.value.Errors.{divided_by_zero, unexpected_arguments}
use Rattle.liquid_filters.specs.meaning.value.Numbers.{fits, limited, number}
use Rattle.liquid_filters.specs.meaning.number.Digits.{scale}
use Rattle.liquid_decimals.specs.meaning.Arithmetic.{floor_quotient, floor_remainder}
use Rattle.liquid_filters.specs.meaning.number.Rounding.{rounded}

-- the numbers of the input and of the one argument
abbrev pub operands : Tree → List Tree → Result (Dec × Dec) Refusal
operands input (t ∷ []) = ok_then (decimal input) (λ a. ok_then (decimal t) (λ b. Ok (a, b)))
operands input other = Err unexpected_arguments

-- two integers go by the first function, and others by the second
abbrev pub by_kinds : (ℤ → ℤ → Result Tree Refusal) → (Dec → Dec → Result Tree Refusal) → Dec × Dec → Result Tree Refusal
by_kinds whole other p = if is_whole p.0 && is_whole p.1 then whole p.0.0 p.1.0 else other p.0 p.1

-- an integer goes by the first function, and another by the second
abbrev pub by_kind : (ℤ → Result Tree Refusal) → (Dec → Result Tree Refusal) → Dec → Result Tree Refusal
by_kind whole other d = if is_whole d then whole d.0 else other d

-- the sum, the difference, the product
abbrev pub plus : Tree → List Tree → Result Tree Refusal
plus input arguments =
    ok_then (operands input arguments) (by_kinds (λ a b. limited (fits (a +ℤ b))) (λ a b. limited_decimal (decimals.plus a b)))

abbrev pub minus : Tree → List Tree → Result Tree Refusal
minus input arguments =
    ok_then (operands input arguments) (by_kinds (λ a b. limited (fits (a -ℤ b))) (λ a b. limited_decimal (decimals.minus a b)))

abbrev pub times : Tree → List Tree → Result Tree Refusal
times input arguments =
    ok_then (operands input arguments) (by_kinds (λ a b. limited (fits (a *ℤ b))) (λ a b. limited_decimal (decimals.times a b)))

-- the same for a division, whose second number is not 0
abbrev pub nonzero : Dec × Dec → Result (Dec × Dec) Refusal
nonzero p = cond (int_eq p.1.0 (pos 0)) (Err divided_by_zero) (Ok p)

abbrev pub division_operands : Tree → List Tree → Result (Dec × Dec) Refusal
division_operands input arguments = ok_then (operands input arguments) nonzero

-- the quotient with as many digits after the point as an argument says
abbrev pub quotient_with_digits : Tree → Tree → Tree → Result Tree Refusal
quotient_with_digits input divisor digits =
    ok_then (operands input (divisor ∷ []))
    (λ p. ok_then (scale digits) (λ s. ok_then (nonzero p) (λ q. limited_decimal (rounding.divided_by q.0 q.1 s))))

-- the quotient of integers rounded down, and of others with the greater scale
abbrev pub quotient : Dec × Dec → Result Tree Refusal
quotient =
    by_kinds (λ a b. limited (fits (floor_quotient a b))) (λ a b. limited_decimal (rounding.divided_by a b (decimals.shared_scale a b)))

-- the quotient, by as many digits after the point as a second argument says
abbrev pub divided_by : Tree → List Tree → Result Tree Refusal
divided_by input (divisor ∷ digits ∷ []) = quotient_with_digits input divisor digits
divided_by input arguments = ok_then (division_operands input arguments) quotient

-- the remainder for the quotient rounded down
abbrev pub modulo : Tree → List Tree → Result Tree Refusal
modulo input arguments =
    ok_then (division_operands input arguments)
    (by_kinds (λ a b. limited (fits (floor_remainder a b))) (λ a b. limited_decimal (decimals.modulo a b)))

-- the greater number, the lesser number; the first of two equal ones
abbrev pub greater : Dec → Dec → Dec
greater a b = if is_lt (decimals.compare a b) then b else a

abbrev pub lesser : Dec → Dec → Dec
lesser a b = if is_lt (decimals.compare b a) then b else a

abbrev pub at_least : Tree → List Tree → Result Tree Refusal
at_least input arguments =
    ok_then (operands input arguments) (by_kinds (λ a b. Ok (scalar (integer (int_max a b)))) (λ a b. Ok (decimal_tree (greater a b))))

abbrev pub at_most : Tree → List Tree → Result Tree Refusal
at_most input arguments =
    ok_then (operands input arguments) (by_kinds (λ a b. Ok (scalar (integer (int_min a b)))) (λ a b. Ok (decimal_tree (lesser a b))))

-- the distance from zero
abbrev pub abs : Tree → Result Tree Refusal
abs input = ok_then (decimal input) (by_kind (λ n. limited (fits (pos (unsigned_abs n)))) (λ d. limited_decimal (decimals.abs d)))

-- the least integer that is not below, and the greatest one that is not above: an integer itself
abbrev pub ceil : Tree → Result Tree Refusal
ceil input = ok_then (decimal input) (by_kind (λ n. Ok (scalar (integer n))) (λ d. Ok (scalar (integer (rounding.ceil d)))))

abbrev pub floor : Tree → Result Tree Refusal
floor input = ok_then (decimal input) (by_kind (λ n. Ok (scalar (integer n))) (λ d. Ok (scalar (integer (rounding.floor d)))))

-- the number of digits to round to: none, or as many as the argument says
abbrev pub digits : List Tree → Result ℤ Refusal
digits [] = Ok (pos 0)
digits (t ∷ []) = number t
digits other = Err unexpected_arguments

-- a decimal rounded to that many digits after the point, and from 0 digits down to an integer
abbrev pub rounded_decimal : Dec → ℤ → Option Dec
rounded_decimal d n = if int_lt (pos 0) n then rounding.round (unsigned_abs n) d else rounding.round_to_power (unsigned_abs n) d

-- the number rounded to that many digits
abbrev pub rounded_number : Dec → ℤ → Result Tree Refusal
rounded_number d n = by_kind (λ m. limited (fits (rounded m n))) (λ e. limited_decimal (rounded_decimal e n)) d

abbrev pub round : Tree → List Tree → Result Tree Refusal
round input arguments = ok_then (decimal input) (λ d. ok_then (digits arguments) (λ n. rounded_number d n))
