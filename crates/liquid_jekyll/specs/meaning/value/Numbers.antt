-- What Jekyll's filter that reads a number returns.
use Rattle.std.specs.Prelude.{ℕ, ℤ, pos, ◌==◌, List, Option, Some, Result, Ok, Err, length, if◌then◌else◌}
use Rattle.liquid_error.specs.meaning.Refusal.{Refusal}
use Rattle.liquid_scalar.specs.meaning.Scalar.{Scal, integer, boolean, render_scalar, whole_number_of_text}
use Rattle.liquid_value.specs.meaning.Tree.{Tree, nil, state, scalar, array, object}
use Rattle.liquid_filters.specs.meaning.value.Errors.{whole_number_expected}
use Rattle.liquid_filters.specs.meaning.value.Numbers.{limited}
use Rattle.liquid_jekyll.specs.meaning.text.Numerals.{numeral}

-- the number with which a string begins after whitespace; 0 without one, and nothing if it does not fit
abbrev pub leading_integer : List ℕ → Option ℤ
leading_integer text = if length (numeral text) == 0 then Some (pos 0) else whole_number_of_text (numeral text)

-- a number itself, 1 for `true` and 0 for `false`, otherwise the number with which the text begins
abbrev pub integer_of : Scal → Result Tree Refusal
integer_of (integer n) = limited (Some n)
integer_of (boolean b) = limited (Some (if b then pos 1 else pos 0))
integer_of other = limited (leading_integer (render_scalar other))

abbrev pub to_integer : Tree → Result Tree Refusal
to_integer nil = limited (Some (pos 0))
to_integer (state s) = limited (Some (pos 0))
to_integer (scalar x) = integer_of x
to_integer (array ts) = Err (whole_number_expected (array ts))
to_integer (object ms) = Err (whole_number_expected (object ms))
