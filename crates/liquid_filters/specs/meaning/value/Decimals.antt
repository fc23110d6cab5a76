-- The decimal of a value.
use Rattle.std.specs.Prelude.{ℤ, ◌==◌, Bool, ok_or, Option, Some, None, Result, Ok, Err, if◌then◌else◌}
use Rattle.liquid_decimals.specs.meaning.Dec.{Dec}
use Rattle.liquid_decimals.specs.meaning.Text.{decimal_of_text}
use Rattle.liquid_decimals.specs.meaning.Written.{written}
use Rattle.liquid_error.specs.meaning.Refusal.{Refusal}
use Rattle.liquid_scalar.specs.meaning.Scalar.{Scal, integer, text}
use Rattle.liquid_value.specs.meaning.Tree.{Tree, scalar}
use Rattle.liquid_filters.specs.meaning.value.Errors.{past_limit, whole_number_expected}
use Rattle.liquid_filters.specs.meaning.value.Numbers.{number_of}

-- the decimal that a string writes
abbrev pub scalar_decimal : Scal → Option Dec
scalar_decimal (text t) = decimal_of_text t
scalar_decimal other = None

abbrev pub written_decimal : Tree → Option Dec
written_decimal (scalar x) = scalar_decimal x
written_decimal other = None

-- an integer as a decimal, and otherwise another decimal, if there is one
abbrev pub whole_or : Option ℤ → Option Dec → Option Dec
whole_or (Some n) other = Some (n, 0)
whole_or None other = other

-- the decimal of a value: its integer, if it has one, and otherwise the decimal that it writes
abbrev pub decimal_of : Tree → Option Dec
decimal_of t = whole_or (number_of t) (written_decimal t)

-- the decimal, or the error for a value that is no number
abbrev pub decimal : Tree → Result Dec Refusal
decimal t = ok_or (decimal_of t) (whole_number_expected t)

-- whether a decimal has no digits after the point
abbrev pub is_whole : Dec → Bool
is_whole d = d.1 == 0

-- the value of a decimal: an integer, or the text that writes it
abbrev pub decimal_tree : Dec → Tree
decimal_tree d = if is_whole d then scalar (integer d.0) else scalar (text (written d))

-- the value of a decimal, or the error if it is past its limit
abbrev pub limited_decimal : Option Dec → Result Tree Refusal
limited_decimal (Some d) = Ok (decimal_tree d)
limited_decimal None = Err past_limit
