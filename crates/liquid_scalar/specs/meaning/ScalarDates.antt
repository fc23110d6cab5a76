-- The dates and date times that a scalar converts to at a moment.
use Rattle.std.specs.Prelude.{◌≡◌}
use Rattle.jiff_core.specs.declared.civil.date.Date.{Date as CivilDate}
use Rattle.liquid_dates.specs.declared.date_time.DateTime.{DateTime}
use Rattle.liquid_dates.specs.meaning.Instant.{civil_date}
use Rattle.liquid_dates.specs.meaning.DateText.{IsDateText, IsDateTimeText}
use Rattle.liquid_scalar.specs.meaning.Scalar.{Scal, integer, boolean, text, date, date_time}

-- a date itself, a date time's own date, or the date that a string writes at the moment; another scalar has no date
abbrev pub IsDateOf : Scal → DateTime → CivilDate → Type 0
IsDateOf (integer n) moment d = ⊥
IsDateOf (boolean b) moment d = ⊥
IsDateOf (text bytes) moment d = IsDateText bytes moment d
IsDateOf (date e) moment d = d ≡ e
IsDateOf (date_time dt) moment d = d ≡ civil_date dt

-- a date time itself, or the date time that a string writes at the moment; another scalar has no date time
abbrev pub IsDateTimeOf : Scal → DateTime → DateTime → Type 0
IsDateTimeOf (integer n) moment dt = ⊥
IsDateTimeOf (boolean b) moment dt = ⊥
IsDateTimeOf (text bytes) moment dt = IsDateTimeText bytes moment dt
IsDateTimeOf (date d) moment dt = ⊥
IsDateTimeOf (date_time e) moment dt = dt ≡ e
