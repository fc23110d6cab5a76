-- Dates in texts.
use Rattle.std.specs.Prelude.{ℕ, ◌&&◌, ◌||◌, ◌==◌, if◌then◌else◌, List, [], ◌∷◌, Option, Some, None}
use Rattle.std.specs.Option.{option_or}
use Rattle.liquid_dates.specs.meaning.Bytes.{dash, slash}
use Rattle.filter_dates.specs.declared.fields.Day.{Day}
use Rattle.filter_dates.specs.meaning.Digits.{◌>>=◌, four_digits, short_number, two_digits}
use Rattle.filter_dates.specs.meaning.Names.{month_named}

-- `YYYY-MM-DD` or `YYYY/MM/DD`
abbrev pub day_in_numbers : List ℕ → Option Day
day_in_numbers (a ∷ b ∷ c ∷ d ∷ s ∷ e ∷ f ∷ t ∷ g ∷ h ∷ []) =
    if ((s == dash) || (s == slash)) && (t == s) then (do
      year ← four_digits (a ∷ b ∷ c ∷ d ∷ [])
      month ← two_digits e f
      day ← two_digits g h
      Some (record { year = year; month = month; day = day })) else None
day_in_numbers other = None

-- a day of the month, and the name of the month
abbrev pub day_and_month : List ℕ → List ℕ → ℕ → Option Day
day_and_month number name year = do
  day ← short_number number
  month ← month_named name
  Some (record { year = year; month = month; day = day })

-- a day and a month in either order, and a year
abbrev pub day_in_words : List ℕ → List ℕ → List ℕ → Option Day
day_in_words first second last = do
  year ← four_digits last
  option_or (day_and_month first second year) (day_and_month second first year)
