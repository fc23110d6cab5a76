-- What contracts see of a date time: a civil date, a time of day and an offset, and the instant that they name.
use Rattle.std.specs.Prelude.{◌≡◌, ℕ, ◌<◌, ℤ, pos, neg_ℤ, ◌+ℤ◌, ◌-ℤ◌, ◌*ℤ◌}
use Rattle.jiff_core.specs.Calendar.{IsBetween}
use Rattle.jiff_core.specs.Timestamp.{IsOffsetSeconds}
use Rattle.jiff_core.specs.declared.civil.date.Date.{Date as CivilDate}
use Rattle.jiff_core.specs.declared.civil.time.Time.{Time as CivilTime}
use Rattle.jiff_core.specs.Date.{epoch_day}
use Rattle.jiff_core.specs.Time.{time_seconds}
use Rattle.liquid_dates.specs.declared.date_time.DateTime.{DateTime}
use Rattle.liquid_dates.specs.declared.error.DateError.{DateError}
use Rattle.liquid_dates.specs.declared.error.DateError.TheVariants.{PartOutOfRange, OutsideYears, NoRfc2822Form, Memory}

-- the civil date
abbrev pub civil_date : DateTime → CivilDate
civil_date dt = dt.local.date

-- the time of day
abbrev pub civil_time : DateTime → CivilTime
civil_time dt = dt.local.time

-- the offset from UTC in seconds
abbrev pub offset_seconds : DateTime → ℤ
offset_seconds dt = dt.offset.seconds

-- the day number: 0 for 1 January 1970
abbrev pub day_number : DateTime → ℤ
day_number dt = epoch_day (civil_date dt)

-- the seconds since midnight
abbrev pub second_of_day : DateTime → ℕ
second_of_day dt = time_seconds (civil_time dt)

-- the nanosecond of the second
abbrev pub nanosecond : DateTime → ℕ
nanosecond dt = (civil_time dt).subsec_nanosecond

-- whole seconds since 1970-01-01 00:00:00 +0000
unfoldable pub unix_seconds : DateTime → ℤ
unix_seconds dt = (day_number dt *ℤ pos 86_400 +ℤ pos (second_of_day dt)) -ℤ offset_seconds dt

-- nanoseconds since then
unfoldable pub instant : DateTime → ℤ
instant dt = unix_seconds dt *ℤ pos 1_000_000_000 +ℤ pos (nanosecond dt)

-- a clock shows this hour, minute, second and nanosecond
abbrev pub IsClockTime : ℕ → ℕ → ℕ → ℕ → Type 0
IsClockTime hour minute second nano =
    (hour < 24) × (minute < 60) × (second < 60) × (nano < 1_000_000_000)

-- the time of day has these parts
abbrev pub HasParts : ℕ → ℕ → ℕ → ℕ → CivilTime → Type 0
HasParts hour minute second nano t =
    (t.hour ≡ hour) × (t.minute ≡ minute) × (t.second ≡ second) × (t.subsec_nanosecond ≡ nano)

-- the instants of the years at any offset
abbrev pub IsInstant : ℤ → Type 0
IsInstant n =
    IsBetween (neg_ℤ (pos 377_705_210_399_000_000_000)) (pos 253_402_394_398_999_999_999) n

-- the error for an offset: an out-of-range part if it is not an offset, otherwise a result outside the years
abbrev pub IsOffsetRefusal : ℤ → DateError → Type 0
IsOffsetRefusal seconds PartOutOfRange = ¬ (IsOffsetSeconds seconds)
IsOffsetRefusal seconds OutsideYears = IsOffsetSeconds seconds
IsOffsetRefusal seconds NoRfc2822Form = ⊥
IsOffsetRefusal seconds Memory = ⊥
