-- What a directive prints for a date time.
use Rattle.std.specs.Prelude.{
  ℕ,
  ◌+◌,
  ◌-◌,
  ◌/◌,
  ◌%◌,
  ◌^◌,
  min,
  nat_lt,
  if◌then◌else◌,
  ℤ,
  pos,
  unsigned_abs,
  int_lt,
  int_rem,
  List,
  [],
  ◌∷◌,
  ◌++◌,
  length,
  replicate,
  Option,
  unwrap_or,
  codes,
}
use Rattle.std.specs.Fmt.{decimal}
use Rattle.std.specs.Str.{byte}
use Rattle.jiff_core.specs.Date.{weekday_of}
use Rattle.liquid_dates.specs.declared.date_time.DateTime.{DateTime}
use Rattle.liquid_dates.specs.declared.flags.Flags.{Flags}
use Rattle.liquid_dates.specs.declared.flags.Filling.{Filling}
use Rattle.liquid_dates.specs.declared.flags.Filling.TheVariants.{Unset, Zeros, Spaces}
use Rattle.liquid_dates.specs.declared.flags.NumberFilling.{NumberFilling}
use Rattle.liquid_dates.specs.declared.flags.NumberFilling.TheVariants.{SpacesBeforeSign, ZerosAfterSign}
use Rattle.liquid_dates.specs.declared.flags.Case.{Case}
use Rattle.liquid_dates.specs.declared.flags.Case.TheVariants.{Plain, Upper, Change}
use Rattle.liquid_dates.specs.declared.directive.Number.{Number}
use Rattle.liquid_dates.specs.declared.directive.Name.{Name}
use Rattle.liquid_dates.specs.declared.directive.Name.TheVariants.{
  ShortMonth,
  WholeMonth,
  ShortWeekday,
  WholeWeekday,
  UpperHalf,
  LowerHalf,
  LineFeed,
  Tab,
  Percent,
}
use Rattle.liquid_dates.specs.declared.directive.Composite.{Composite}
use Rattle.liquid_dates.specs.declared.directive.Composite.TheVariants.{
  DashedDate,
  NamedDate,
  HourMinute,
  SlashedDate,
  Clock,
  ClockOf12,
  DateAndTime,
}
use Rattle.liquid_dates.specs.declared.directive.Offset.{Offset}
use Rattle.liquid_dates.specs.declared.directive.Offset.TheVariants.{Joined, Minutes, Seconds}
use Rattle.liquid_dates.specs.declared.directive.Directive.{Directive}
use Rattle.liquid_dates.specs.declared.directive.Directive.TheVariants.{OfNumber, OfName, OfComposite, OfFraction, OfOffset}
use Rattle.liquid_dates.specs.meaning.Instant.{civil_date, civil_time, nanosecond, offset_seconds}
use Rattle.liquid_dates.specs.meaning.Names.{month_name, short_month_name, weekday_name, short_weekday_name}
use Rattle.liquid_dates.specs.meaning.Printed.{sign_of}
use Rattle.liquid_dates.specs.meaning.Numbers.{number_value, default_width, hour_of_12}
use Rattle.liquid_dates.specs.meaning.Filling.{filled_number, filled_text, number_filling, text_filler, cased}
use Rattle.liquid_dates.specs.meaning.Bytes.{colon, dash, percent, slash, space}

-- the width of a number: 0 with the flag `-`, otherwise the one given, otherwise the default, with one more for a sign
abbrev pub number_width : Flags → Option ℕ → Number → ℤ → ℕ
number_width flags width n z =
    if flags.unfilled then 0
    else unwrap_or width (default_width n + (if int_lt z (pos 0) then 1 else 0))

-- a number, following its flags and its width
unfoldable pub number_text : Flags → Option ℕ → NumberFilling → Number → DateTime → List ℕ
number_text flags width default n dt =
    filled_number (number_filling flags.filling default) (number_width flags width n (number_value n dt)) (number_value n dt)

-- the half of the day
abbrev pub upper_half : ℕ → List ℕ
upper_half hour = if nat_lt hour 12 then codes "AM" else codes "PM"

abbrev pub lower_half : ℕ → List ℕ
lower_half hour = if nat_lt hour 12 then codes "am" else codes "pm"

-- `AM` or `PM`, in lower case with the flag `#`
abbrev pub upper_half_as : Case → ℕ → List ℕ
upper_half_as Plain hour = upper_half hour
upper_half_as Upper hour = upper_half hour
upper_half_as Change hour = lower_half hour

-- `am` or `pm`, in upper case with the flag `^` or `#`
abbrev pub lower_half_as : Case → ℕ → List ℕ
lower_half_as Plain hour = lower_half hour
lower_half_as Upper hour = upper_half hour
lower_half_as Change hour = upper_half hour

-- a name or a character
unfoldable pub name_of : Case → Name → DateTime → List ℕ
name_of case ShortMonth dt = cased case (short_month_name (civil_date dt).month)
name_of case WholeMonth dt = cased case (month_name (civil_date dt).month)
name_of case ShortWeekday dt = cased case (short_weekday_name (weekday_of (civil_date dt)))
name_of case WholeWeekday dt = cased case (weekday_name (weekday_of (civil_date dt)))
name_of case UpperHalf dt = upper_half_as case (civil_time dt).hour
name_of case LowerHalf dt = lower_half_as case (civil_time dt).hour
name_of case LineFeed dt = byte "\n" ∷ []
name_of case Tab dt = byte "\t" ∷ []
name_of case Percent dt = percent ∷ []

-- a name, following its flags and its width
unfoldable pub name_text : Flags → Option ℕ → Name → DateTime → List ℕ
name_text flags width n dt =
    filled_text (text_filler flags.filling) (if flags.unfilled then 0 else unwrap_or width 0)
    (length (name_of flags.case n dt)) (name_of flags.case n dt)

-- a number padded with zeros to two characters
abbrev pub two : ℕ → List ℕ
two n = filled_number ZerosAfterSign 2 (pos n)

-- `HH:MM`
unfoldable pub hour_minute_of : DateTime → List ℕ
hour_minute_of dt = two (civil_time dt).hour ++ (colon ∷ two (civil_time dt).minute)

-- `HH:MM:SS`
unfoldable pub clock_of : DateTime → List ℕ
clock_of dt = hour_minute_of dt ++ (colon ∷ two (civil_time dt).second)

-- `HH:MM:SS AM`, on a clock of twelve hours
unfoldable pub clock_of_12 : DateTime → List ℕ
clock_of_12 dt =
    two (hour_of_12 (civil_time dt).hour) ++ (colon ∷ (two (civil_time dt).minute
    ++ (colon ∷ (two (civil_time dt).second ++ (space ∷ upper_half (civil_time dt).hour)))))

-- the year, padded with zeros to four characters with its sign
abbrev pub year_of_four : DateTime → List ℕ
year_of_four dt = filled_number ZerosAfterSign 4 (civil_date dt).year

-- `YYYY-MM-DD`
unfoldable pub dashed_date_text : DateTime → List ℕ
dashed_date_text dt =
    year_of_four dt ++ (dash ∷ (two (civil_date dt).month ++ (dash ∷ two (civil_date dt).day)))

-- ` D-MON-YYYY`
unfoldable pub named_date_text : DateTime → List ℕ
named_date_text dt =
    filled_number SpacesBeforeSign 2 (pos (civil_date dt).day)
    ++ (dash ∷ (cased Upper (short_month_name (civil_date dt).month) ++ (dash ∷ year_of_four dt)))

-- the remainder of the year by 100, padded with zeros to two characters with its sign
unfoldable pub year_of_two : DateTime → List ℕ
year_of_two dt = filled_number ZerosAfterSign 2 (int_rem (civil_date dt).year (pos 100))

-- `MM/DD/YY`
unfoldable pub slashed_date_text : DateTime → List ℕ
slashed_date_text dt =
    two (civil_date dt).month ++ (slash ∷ (two (civil_date dt).day
    ++ (slash ∷ year_of_two dt)))

-- `Www Mon `, and the day padded with a space to two characters
unfoldable pub named_day : Case → DateTime → List ℕ
named_day case dt =
    cased case (short_weekday_name (weekday_of (civil_date dt))) ++ (space ∷ (cased case (short_month_name (civil_date dt).month)
    ++ (space ∷ filled_number SpacesBeforeSign 2 (pos (civil_date dt).day))))

-- `Www Mon  D HH:MM:SS YYYY`
unfoldable pub date_and_time : Case → DateTime → List ℕ
date_and_time case dt = named_day case dt ++ (space ∷ (clock_of dt ++ (space ∷ year_of_four dt)))

-- a composite without its padding
unfoldable pub composite_of : Case → Composite → DateTime → List ℕ
composite_of case DashedDate dt = dashed_date_text dt
composite_of case NamedDate dt = named_date_text dt
composite_of case HourMinute dt = hour_minute_of dt
composite_of case SlashedDate dt = slashed_date_text dt
composite_of case Clock dt = clock_of dt
composite_of case ClockOf12 dt = clock_of_12 dt
composite_of case DateAndTime dt = date_and_time case dt

-- the number of characters that a composite counts as
abbrev pub composite_length : Composite → ℕ
composite_length DashedDate = 10
composite_length NamedDate = 11
composite_length HourMinute = 5
composite_length SlashedDate = 8
composite_length Clock = 8
composite_length ClockOf12 = 11
composite_length DateAndTime = 24

-- a composite, following its flags and its width; the flag `-` has no effect
unfoldable pub composite_text : Flags → Option ℕ → Composite → DateTime → List ℕ
composite_text flags width c dt =
    filled_text (text_filler flags.filling) (unwrap_or width 0) (composite_length c) (composite_of flags.case c dt)

-- the first of the nine digits of the fraction, and zeros past nine
unfoldable pub fraction_of : ℕ → ℕ → List ℕ
fraction_of digits nano =
    filled_number ZerosAfterSign (min digits 9) (pos (nano / 10 ^ (9 - digits))) ++ replicate (digits - 9) (byte "0")

-- the length of an offset whose hours have two digits
abbrev pub offset_length : Offset → ℕ
offset_length Joined = 5
offset_length Minutes = 6
offset_length Seconds = 9

-- the number of characters that the hours of an offset have
abbrev pub hours_width : Option ℕ → Offset → ℕ
hours_width width kind = 2 + (unwrap_or width 0 - offset_length kind)

-- the sign and the hours: spaces before the sign, or zeros after it
unfoldable pub write_signed_hours : Filling → ℕ → ℤ → List ℕ
write_signed_hours Spaces width seconds =
    replicate (width - (1 + length (decimal (unsigned_abs seconds / 3600)))) space
    ++ (sign_of seconds ∷ decimal (unsigned_abs seconds / 3600))
write_signed_hours Unset width seconds =
    sign_of seconds ∷ filled_number ZerosAfterSign width (pos (unsigned_abs seconds / 3600))
write_signed_hours Zeros width seconds =
    sign_of seconds ∷ filled_number ZerosAfterSign width (pos (unsigned_abs seconds / 3600))

-- the minutes and seconds after them
unfoldable pub offset_minutes : Offset → ℤ → List ℕ
offset_minutes Joined seconds = two (unsigned_abs seconds / 60 % 60)
offset_minutes Minutes seconds = colon ∷ two (unsigned_abs seconds / 60 % 60)
offset_minutes Seconds seconds =
    colon ∷ (two (unsigned_abs seconds / 60 % 60) ++ (colon ∷ two (unsigned_abs seconds % 60)))

-- the offset, following its flags and its width; the flag `-` has no effect
unfoldable pub offset_of : Flags → Option ℕ → Offset → DateTime → List ℕ
offset_of flags width kind dt =
    write_signed_hours flags.filling (hours_width width kind) (offset_seconds dt)
    ++ offset_minutes kind (offset_seconds dt)

-- what a directive prints
unfoldable pub directive_text : DateTime → Flags → Option ℕ → Directive → List ℕ
directive_text dt flags width (OfNumber n default) = number_text flags width default n dt
directive_text dt flags width (OfName n) = name_text flags width n dt
directive_text dt flags width (OfComposite c) = composite_text flags width c dt
directive_text dt flags width (OfFraction digits) = fraction_of (unwrap_or width digits) (nanosecond dt)
directive_text dt flags width (OfOffset kind) = offset_of flags width kind dt
