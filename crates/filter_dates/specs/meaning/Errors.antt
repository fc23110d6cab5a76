-- The error of a pattern.
use Rattle.std.specs.Prelude.{ℕ, List, codes, Option, None, Some}
use Rattle.liquid_dates.specs.declared.error.DateFormatError.{DateFormatError}
use Rattle.liquid_dates.specs.declared.error.DateFormatError.TheVariants.{Memory}
use Rattle.liquid_dates.specs.meaning.ErrorText.{date_format_error_text}
use Rattle.liquid_error.specs.meaning.Refusal.{Refusal, plain, with_context}

-- the error for a pattern that a date time can't be printed by, with the reason
abbrev pub pattern_error : List ℕ → List ℕ → Refusal
pattern_error message pattern = with_context (codes "pattern") pattern (plain message)

-- the error of a pattern; an out-of-memory error is not one of the pattern
abbrev pub error_of_pattern : DateFormatError → List ℕ → Option Refusal
error_of_pattern Memory pattern = None
error_of_pattern e pattern = Some (pattern_error (date_format_error_text e) pattern)
