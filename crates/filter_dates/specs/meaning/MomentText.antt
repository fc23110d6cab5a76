-- Date times in texts that other programs and people write.
use Rattle.std.specs.Prelude.{◌≡◌, ℕ, ◌==◌, if◌then◌else◌, ℤ, pos, List, [], ◌∷◌, drop, take, codes, Option, Some, None}
use Rattle.std.specs.Option.{is_some, option_or}
use Rattle.std.specs.Str.{byte}
use Rattle.liquid_dates.specs.declared.date_time.DateTime.{DateTime}
use Rattle.liquid_dates.specs.meaning.DateText.{Form}
use Rattle.liquid_dates.specs.meaning.Instant.{civil_date, civil_time, nanosecond, offset_seconds}
use Rattle.liquid_strings.specs.meaning.Replace.{replaced}
use Rattle.liquid_strings.specs.meaning.Split.{words}
use Rattle.filter_dates.specs.declared.fields.Clock.{Clock}
use Rattle.filter_dates.specs.declared.fields.Day.{Day}
use Rattle.filter_dates.specs.declared.fields.Fields.{Fields}
use Rattle.filter_dates.specs.meaning.ClockText.{time_after_mark, time_in_words}
use Rattle.filter_dates.specs.meaning.DayText.{day_in_numbers, day_in_words}
use Rattle.filter_dates.specs.meaning.Digits.{◌>>=◌}
use Rattle.filter_dates.specs.meaning.Names.{weekday_named}

-- a date, a time of day and an offset
abbrev pub together : Day → Clock × ℤ → Option Fields
together day time = Some (record { day = day; clock = time.0; offset = time.1 })

-- what follows a date in numbers: words, or a `T` and a time
abbrev pub time_after_day : List ℕ → List (List ℕ) → Option (Clock × ℤ)
time_after_day [] others = time_in_words others
time_after_day (c ∷ time) others = if c == byte "T" then time_after_mark time others else None

-- a date in numbers and perhaps a time
abbrev pub in_numbers : List (List ℕ) → Option Fields
in_numbers [] = None
in_numbers (word ∷ others) = do
  day ← day_in_numbers (take 10 word)
  time ← time_after_day (drop 10 word) others
  together day time

-- a date in words and perhaps a time
abbrev pub in_words : List (List ℕ) → Option Fields
in_words (first ∷ second ∷ last ∷ others) = do
  day ← day_in_words first second last
  time ← time_in_words others
  together day time
in_words other = None

-- words without a weekday in front
abbrev pub without_weekday : List (List ℕ) → List (List ℕ)
without_weekday [] = []
without_weekday (word ∷ others) = if is_some (weekday_named word) then others else word ∷ others

-- the words of a string, which commas part as whitespace does
abbrev pub moment_words : List ℕ → List (List ℕ)
moment_words text = words (replaced (codes ",") (codes " ") text)

-- the numbers that words write: a date in numbers or in words, and perhaps a time
abbrev pub fields_in : List (List ℕ) → Option Fields
fields_in ws = option_or (in_numbers ws) (in_words ws)

-- the numbers that a string writes, perhaps after a weekday
abbrev pub fields_of : List ℕ → Option Fields
fields_of text = fields_in (without_weekday (moment_words text))

-- a date time has these numbers
pub record HasFields (fields : Fields) (dt : DateTime) : Type 0 where
  pub year : (civil_date dt).year ≡ pos fields.day.year
  pub month : (civil_date dt).month ≡ fields.day.month
  pub day : (civil_date dt).day ≡ fields.day.day
  pub hour : (civil_time dt).hour ≡ fields.clock.hour
  pub minute : (civil_time dt).minute ≡ fields.clock.minute
  pub second : (civil_time dt).second ≡ fields.clock.second
  pub nanosecond : nanosecond dt ≡ fields.clock.nanosecond
  pub offset : offset_seconds dt ≡ fields.offset

-- the date time of the numbers that a string writes, if the calendar and the clock have it
abbrev pub IsMomentInText : Form DateTime
IsMomentInText text dt = (fields : Fields) × (fields_of text ≡ Some fields) × HasFields fields dt
