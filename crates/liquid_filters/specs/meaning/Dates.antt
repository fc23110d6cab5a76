-- What the filter `date` returns.
use Rattle.std.proofs.Common.{inl, inr}
use Rattle.std.specs.Prelude.{◌⊎◌, ℕ, List, [], ◌∷◌, length, nat_eq, cond, Option, Result, Ok, Err}
use Rattle.std.specs.Str.{chars}
use Rattle.liquid_dates.specs.declared.date_time.DateTime.{DateTime}
use Rattle.liquid_dates.specs.declared.error.DateFormatError.{DateFormatError}
use Rattle.liquid_dates.specs.meaning.ErrorText.{date_format_error_text}
use Rattle.liquid_dates.specs.meaning.Pattern.{answer_of}
use Rattle.liquid_dates.proofs.PatternLemmas.{some_reading}
use Rattle.liquid_error.specs.meaning.Refusal.{Refusal}
use Rattle.liquid_scalar.specs.meaning.Scalar.{text}
use Rattle.liquid_value.specs.meaning.Render.{render}
use Rattle.liquid_value.specs.meaning.Tree.{Tree, scalar}
use Rattle.filter_dates.specs.meaning.Errors.{pattern_error}
use Rattle.filter_dates.specs.meaning.Moments.{IsMomentOf}
use Rattle.filter_dates.proofs.MomentLemmas.{moment_of}
use Rattle.liquid_filters.specs.meaning.value.Errors.{unexpected_arguments}

-- what a date time prints by a pattern: the result of the one reading that the pattern has
abbrev pub formatted : DateTime → List ℕ → Result (List ℕ) DateFormatError
formatted dt pattern = answer_of dt (some_reading (chars pattern)).items (some_reading (chars pattern)).end

-- what is printed, as a value, or the error of the pattern
abbrev pub printed : List ℕ → Result (List ℕ) DateFormatError → Result Tree Refusal
printed pattern (Ok bytes) = Ok (scalar (text bytes))
printed pattern (Err e) = Err (pattern_error (date_format_error_text e) pattern)

-- what is printed for the moment that an input means, or the input if it means none
abbrev pub printed_moment : {P : DateTime → Type 0} → Tree → List ℕ → (((dt : DateTime) × P dt) ⊎ ((dt : DateTime) → ¬ (P dt)))
    → Result Tree Refusal
printed_moment input pattern (inl (dt, _)) = printed pattern (formatted dt pattern)
printed_moment input pattern (inr _) = Ok input

-- the same, except for an empty pattern, with which the input is kept
abbrev pub printed_by : Option DateTime → Tree → List ℕ → Result Tree Refusal
printed_by now input pattern =
    cond (nat_eq (length pattern) 0) (Ok input) (printed_moment {P = IsMomentOf now input} input pattern (moment_of now input))

-- by the text of the argument, where `now` and `today` are the moment that is given, if one is
abbrev pub dated : Option DateTime → Tree → List Tree → Result Tree Refusal
dated now input (p ∷ []) = printed_by now input (render p)
dated now input other = Err unexpected_arguments
