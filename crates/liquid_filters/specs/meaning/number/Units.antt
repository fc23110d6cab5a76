-- What the filters that write decimals and change their unit return.
use Rattle.std.specs.Prelude.{ℕ, List, [], ◌∷◌, codes, Option, Some, None, Result, Ok, Err, if◌then◌else◌}
use Rattle.liquid_decimals.specs.meaning.Dec.{Dec}
use Rattle.liquid_decimals.specs.meaning.Rounding.{loses_digits, round}
use Rattle.liquid_decimals.specs.meaning.Written.{styled}
use Rattle.liquid_error.specs.meaning.Refusal.{Refusal, ok_then}
use Rattle.liquid_scalar.specs.meaning.Scalar.{integer, text}
use Rattle.liquid_value.specs.meaning.Render.{render}
use Rattle.liquid_value.specs.meaning.Tree.{Tree, scalar}
use Rattle.liquid_filters.specs.meaning.value.Decimals.{decimal, limited_decimal}
use Rattle.liquid_filters.specs.meaning.value.Errors.{digits_past_limit, past_limit, unexpected_arguments}
use Rattle.liquid_filters.specs.meaning.value.Numbers.{number}
use Rattle.liquid_filters.specs.meaning.number.Digits.{scale}

-- the text of a decimal with this point and this separator, or the error if it is past its limit
abbrev pub styled_text : List ℕ → List ℕ → Option Dec → Result Tree Refusal
styled_text point separator (Some d) = Ok (scalar (text (styled point separator d)))
styled_text point separator None = Err past_limit

-- the number with exactly so many digits after the point
abbrev pub styled_number : List ℕ → List ℕ → Tree → Tree → Result Tree Refusal
styled_number point separator input digits =
    ok_then (decimal input) (λ d. ok_then (scale digits) (λ s. styled_text point separator (round s d)))

-- the same with a point and nothing between the digits, or with the texts that the arguments give
abbrev pub written_decimal : Tree → List Tree → Result Tree Refusal
written_decimal input (digits ∷ []) = styled_number (codes ".") [] input digits
written_decimal input (digits ∷ point ∷ []) = styled_number (render point) [] input digits
written_decimal input (digits ∷ point ∷ separator ∷ []) = styled_number (render point) (render separator) input digits
written_decimal input other = Err unexpected_arguments

-- a number of a smaller unit in the larger one, which has so many digits after the point
abbrev pub from_minor : Tree → List Tree → Result Tree Refusal
from_minor input (digits ∷ []) = ok_then (number input) (λ n. ok_then (scale digits) (λ s. limited_decimal (Some (n, s))))
from_minor input other = Err unexpected_arguments

-- an integer of the smaller unit
abbrev pub minor : Option Dec → Result Tree Refusal
minor (Some d) = Ok (scalar (integer d.0))
minor None = Err past_limit

-- a number of a larger unit in the smaller one, if no digit is lost
abbrev pub to_minor : Tree → List Tree → Result Tree Refusal
to_minor input (digits ∷ []) =
    ok_then (decimal input)
    (λ d. ok_then (scale digits) (λ s. if loses_digits s d then Err digits_past_limit else minor (round s d)))
to_minor input other = Err unexpected_arguments
