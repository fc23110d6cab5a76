-- The numbers of a date time that directives print.
use Rattle.std.specs.Prelude.{ℕ, zero, suc, ◌+◌, ◌%◌, ◌==◌, if◌then◌else◌, ℤ, pos, ◌-ℤ◌, int_div, int_rem}
use Rattle.jiff_core.specs.Calendar.{weekday_number}
use Rattle.jiff_core.specs.Date.{weekday_of, ordinal}
use Rattle.liquid_dates.specs.declared.date_time.DateTime.{DateTime}
use Rattle.liquid_dates.specs.declared.directive.Number.{Number}
use Rattle.liquid_dates.specs.declared.directive.Number.TheVariants.{
  Year,
  Century,
  YearOfCentury,
  Month,
  Day,
  Ordinal,
  Hour,
  HourOf12,
  Minute,
  Second,
  WeekdayFromMonday,
  WeekdayFromSunday,
  WeekFromSunday,
  WeekFromMonday,
  IsoYear,
  IsoYearOfCentury,
  IsoWeek,
  UnixSeconds,
}
use Rattle.liquid_dates.specs.meaning.Instant.{civil_date, civil_time, day_number, unix_seconds}
use Rattle.liquid_dates.specs.meaning.IsoWeek.{iso_year, iso_week}

-- how many of the n days that end with the day are that weekday, where 0 is Monday
unfoldable pub weekdays_passed : ℕ → ℤ → ℕ → ℕ
weekdays_passed weekday day zero = 0
weekdays_passed weekday day (suc n) =
    weekdays_passed weekday day n + (if weekday_number (day -ℤ pos n) == weekday then 1 else 0)

-- the week of the year, where a week begins with each such weekday of the year, and week 0 is before the first
abbrev pub week_from : ℕ → DateTime → ℕ
week_from weekday dt = weekdays_passed weekday (day_number dt) (ordinal (civil_date dt))

-- the hour on a clock of twelve hours, with 12 for 0
abbrev pub hour_of_12 : ℕ → ℕ
hour_of_12 hour = if hour % 12 == 0 then 12 else hour % 12

-- the value of a number
unfoldable pub number_value : Number → DateTime → ℤ
number_value Year dt = (civil_date dt).year
number_value Century dt = int_div (civil_date dt).year (pos 100)
number_value YearOfCentury dt = int_rem (civil_date dt).year (pos 100)
number_value Month dt = pos (civil_date dt).month
number_value Day dt = pos (civil_date dt).day
number_value Ordinal dt = pos (ordinal (civil_date dt))
number_value Hour dt = pos (civil_time dt).hour
number_value HourOf12 dt = pos (hour_of_12 (civil_time dt).hour)
number_value Minute dt = pos (civil_time dt).minute
number_value Second dt = pos (civil_time dt).second
number_value WeekdayFromMonday dt = pos (weekday_of (civil_date dt) + 1)
number_value WeekdayFromSunday dt = pos ((weekday_of (civil_date dt) + 1) % 7)
number_value WeekFromSunday dt = pos (week_from 6 dt)
number_value WeekFromMonday dt = pos (week_from 0 dt)
number_value IsoYear dt = iso_year (civil_date dt)
number_value IsoYearOfCentury dt = int_rem (iso_year (civil_date dt)) (pos 100)
number_value IsoWeek dt = pos (iso_week (civil_date dt))
number_value UnixSeconds dt = unix_seconds dt

-- the width of a number that is not negative, if no width is given
abbrev pub default_width : Number → ℕ
default_width Year = 4
default_width Century = 2
default_width YearOfCentury = 2
default_width Month = 2
default_width Day = 2
default_width Ordinal = 3
default_width Hour = 2
default_width HourOf12 = 2
default_width Minute = 2
default_width Second = 2
default_width WeekdayFromMonday = 0
default_width WeekdayFromSunday = 0
default_width WeekFromSunday = 2
default_width WeekFromMonday = 2
default_width IsoYear = 4
default_width IsoYearOfCentury = 2
default_width IsoWeek = 2
default_width UnixSeconds = 0
