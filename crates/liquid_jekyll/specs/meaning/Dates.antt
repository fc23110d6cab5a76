-- What Jekyll's filters on dates return.
use Rattle.std.proofs.Common.{inl, inr}
use Rattle.std.specs.Prelude.{
  ◌⊎◌,
  ℕ,
  ◌%◌,
  Bool,
  true,
  false,
  not,
  ◌==◌,
  ◌&&◌,
  nat_le,
  List,
  [],
  ◌∷◌,
  ◌++◌,
  Option,
  Result,
  Ok,
  Err,
  codes,
  length,
  if◌then◌else◌,
}
use Rattle.std.specs.Str.{bytes_eq}
use Rattle.liquid_dates.specs.declared.date_time.DateTime.{DateTime}
use Rattle.liquid_dates.specs.meaning.Instant.{civil_date}
use Rattle.liquid_error.specs.meaning.Refusal.{Refusal}
use Rattle.liquid_scalar.specs.meaning.Scalar.{text}
use Rattle.liquid_value.specs.meaning.Render.{render}
use Rattle.liquid_value.specs.meaning.Tree.{Tree, nil, scalar}
use Rattle.filter_dates.specs.meaning.Moments.{IsMomentOf}
use Rattle.filter_dates.proofs.MomentLemmas.{moment_of}
use Rattle.liquid_filters.specs.meaning.Dates.{formatted, printed}
use Rattle.liquid_filters.specs.meaning.value.Errors.{found_error, unexpected_arguments}
use Rattle.liquid_jekyll.specs.declared.dates.DateForm.{DateForm}
use Rattle.liquid_jekyll.specs.declared.dates.DateForm.TheVariants.{Short, Long, Xmlschema, Rfc822}
use Rattle.liquid_jekyll.specs.declared.dates.DayStyle.{DayStyle}
use Rattle.liquid_jekyll.specs.declared.dates.DayStyle.TheVariants.{Plain, Ordinal, American}

-- a value that means no moment
abbrev pub moment_expected : Tree → Refusal
moment_expected t = found_error (codes "Moment expected") t

-- what follows the digits of an ordinal number in English
abbrev pub mark_of_digit : ℕ → List ℕ
mark_of_digit d = if d == 1 then codes "st" else if d == 2 then codes "nd" else if d == 3 then codes "rd" else codes "th"

abbrev pub ordinal_mark : ℕ → List ℕ
ordinal_mark day = if nat_le 11 day && nat_le day 13 then codes "th" else mark_of_digit (day % 10)

-- the pattern of a day, a month and a year, with this month and this mark of an ordinal number
abbrev pub day_pattern : DayStyle → List ℕ → List ℕ → List ℕ
day_pattern Plain month mark = codes "%d " ++ (month ++ codes " %Y")
day_pattern Ordinal month mark = codes "%-d" ++ (mark ++ (codes " " ++ (month ++ codes " %Y")))
day_pattern American month mark = month ++ (codes " %-d" ++ (mark ++ codes ", %Y"))

-- the pattern of a form, for a day of the month
abbrev pub pattern : DateForm → DayStyle → ℕ → List ℕ
pattern Short style day = day_pattern style (codes "%b") (ordinal_mark day)
pattern Long style day = day_pattern style (codes "%B") (ordinal_mark day)
pattern Xmlschema style day = codes "%Y-%m-%dT%H:%M:%S%:z"
pattern Rfc822 style day = codes "%a, %d %b %Y %H:%M:%S %z"

-- a moment by such a pattern
abbrev pub written_moment : DateForm → DayStyle → DateTime → Result Tree Refusal
written_moment form style dt =
    printed (pattern form style (civil_date dt).day) (formatted dt (pattern form style (civil_date dt).day))

-- the same for the moment that an input means; without one it is an error
abbrev pub written_if : {P : DateTime → Type 0} → DateForm → DayStyle → Tree
    → (((dt : DateTime) × P dt) ⊎ ((dt : DateTime) → ¬ (P dt))) → Result Tree Refusal
written_if form style input (inl (dt, _)) = written_moment form style dt
written_if form style input (inr _) = Err (moment_expected input)

-- whether an input is nil or the empty string, which stay
abbrev pub is_kept : Tree → Bool
is_kept nil = true
is_kept (scalar (text t)) = length t == 0
is_kept other = false

abbrev pub written : DateForm → DayStyle → Option DateTime → Tree → Result Tree Refusal
written form style now input =
    if is_kept input then Ok input else written_if {P = IsMomentOf now input} form style input (moment_of now input)

-- the style that two strings name
abbrev pub style_named : List ℕ → List ℕ → DayStyle
style_named day order =
    if not (bytes_eq day (codes "ordinal")) then Plain else if bytes_eq order (codes "US") then American else Ordinal

-- the moment that an input means, by the style that the arguments name
abbrev pub written_date : DateForm → Option DateTime → Tree → List Tree → Result Tree Refusal
written_date form now input [] = written form Plain now input
written_date form now input (day ∷ []) = written form (style_named (render day) []) now input
written_date form now input (day ∷ order ∷ []) = written form (style_named (render day) (render order)) now input
written_date form now input other = Err unexpected_arguments
