-- The number of a value.
use Rattle.std.specs.Prelude.{ℤ, pos, neg_ℤ, ◌-◌, ◌^◌, ◌&&◌, cond, ok_or, Option, Some, None, Result, Ok, Err}
use Rattle.std.specs.Int.Signed.{le_z}
use Rattle.std.specs.Str.{trim}
use Rattle.liquid_error.specs.meaning.Refusal.{Refusal}
use Rattle.liquid_scalar.specs.meaning.Scalar.{Scal, integer, text, to_integer, whole_number_of_text}
use Rattle.liquid_value.specs.meaning.Tree.{Tree, nil, scalar}
use Rattle.liquid_filters.specs.meaning.value.Errors.{past_limit, whole_number_expected}

-- the number of a scalar: a number itself, or what a string writes between whitespace
abbrev pub scalar_number : Scal → Option ℤ
scalar_number (text t) = whole_number_of_text (trim t)
scalar_number other = to_integer other

-- the integer of a value, if it is one
abbrev pub whole_of : Tree → Option ℤ
whole_of (scalar x) = scalar_number x
whole_of other = None

-- the same, and 0 for nil
abbrev pub number_of : Tree → Option ℤ
number_of nil = Some (pos 0)
number_of other = whole_of other

-- the integer, or the error for a value that is not one
abbrev pub whole : Tree → Result ℤ Refusal
whole t = ok_or (whole_of t) (whole_number_expected t)

-- the number, or the error for a value that has none
abbrev pub number : Tree → Result ℤ Refusal
number t = ok_or (number_of t) (whole_number_expected t)

-- the number if it is from -2^63 to 2^63 - 1
abbrev pub fits : ℤ → Option ℤ
fits n = cond (le_z (neg_ℤ (pos (2 ^ 63))) n && le_z n (pos (2 ^ 63 - 1))) (Some n) None

-- the value of a number, or the error if it does not fit
abbrev pub limited : Option ℤ → Result Tree Refusal
limited (Some n) = Ok (scalar (integer n))
limited None = Err past_limit
