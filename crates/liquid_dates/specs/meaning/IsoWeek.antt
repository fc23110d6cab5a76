-- Weeks by ISO 8601: they begin on Monday, and week 1 has the year's first Thursday, and so 4 January.
use Rattle.std.specs.Prelude.{ℕ, ◌+◌, ◌/◌, if◌then◌else◌, ℤ, pos, ◌+ℤ◌, ◌-ℤ◌, int_lt, unsigned_abs}
use Rattle.jiff_core.specs.declared.civil.date.Date.{Date}
use Rattle.jiff_core.specs.Calendar.{iso_year_start}
use Rattle.jiff_core.specs.Date.{epoch_day}

-- the year whose weeks include the day: the calendar's year, or near New Year the one before or after it
unfoldable pub iso_year : Date → ℤ
iso_year d =
    if int_lt (epoch_day d) (iso_year_start d.year) then d.year -ℤ pos 1
    else (if int_lt (epoch_day d) (iso_year_start (d.year +ℤ pos 1)) then d.year else d.year +ℤ pos 1)

-- the week of that year, from 1
unfoldable pub iso_week : Date → ℕ
iso_week d = unsigned_abs (epoch_day d -ℤ iso_year_start (iso_year d)) / 7 + 1
