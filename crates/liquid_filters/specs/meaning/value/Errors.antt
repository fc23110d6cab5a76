-- The errors of standard filters.
use Rattle.std.specs.Prelude.{ℕ, List, codes}
use Rattle.liquid_error.specs.meaning.Refusal.{Refusal, plain, with_context}
use Rattle.liquid_value.specs.meaning.Tree.{Tree}
use Rattle.liquid_value.specs.meaning.Render.{source}

-- too few or too many arguments, or a keyword that is unknown or given twice
abbrev pub unexpected_arguments : Refusal
unexpected_arguments = plain (codes "Unexpected arguments")

-- a message about a value, with its source
abbrev pub found_error : List ℕ → Tree → Refusal
found_error message t = with_context (codes "found") (source t) (plain message)

-- a value that is not a number
abbrev pub whole_number_expected : Tree → Refusal
whole_number_expected t = found_error (codes "Whole number expected") t

-- a result that is not from -2^63 to 2^63 - 1
abbrev pub past_limit : Refusal
past_limit = plain (codes "Number past its limit")

-- digits after the point that are too few for a number, or fewer than none
abbrev pub digits_past_limit : Refusal
digits_past_limit = plain (codes "Digits past their limit")

-- a divisor that is 0
abbrev pub divided_by_zero : Refusal
divided_by_zero = plain (codes "Divided by zero")

-- a value that is not an array
abbrev pub array_expected : Tree → Refusal
array_expected t = found_error (codes "Array expected") t

-- a value that has no property of this name, since it is not an object
abbrev pub object_expected : List ℕ → Tree → Refusal
object_expected name t = with_context (codes "found") (source t) (with_context (codes "property") name (plain (codes "Object expected")))

-- two values that have no order
abbrev pub without_order : Tree → Tree → Refusal
without_order first second =
    with_context (codes "second") (source second) (with_context (codes "first") (source first) (plain (codes "Values without an order")))

-- a string that is not the base64 of any bytes
abbrev pub invalid_base64 : Refusal
invalid_base64 = plain (codes "Invalid base64")

-- decoded bytes that are not UTF-8
abbrev pub decoded_no_text : Refusal
decoded_no_text = plain (codes "Decoded bytes are no text")
