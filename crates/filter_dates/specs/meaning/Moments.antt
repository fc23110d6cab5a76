-- The moment that a value means: a date time.
use Rattle.std.specs.Prelude.{◌≡◌, pos, Option, None, Some}
use Rattle.jiff_core.specs.Time.{time_nanos}
use Rattle.jiff_core.specs.declared.civil.date.Date.{Date as CivilDate}
use Rattle.liquid_dates.specs.declared.date_time.DateTime.{DateTime}
use Rattle.liquid_dates.specs.meaning.DateText.{Form, first, IsNow, IsDateText, IsDateTimeText, IsUnixTime, SameDate}
use Rattle.liquid_dates.specs.meaning.Instant.{civil_date, civil_time, offset_seconds}
use Rattle.liquid_scalar.specs.meaning.Scalar.{Scal, integer, boolean, text, date, date_time}
use Rattle.liquid_value.specs.meaning.Tree.{Tree, nil, state, scalar, array, object}
use Rattle.filter_dates.specs.meaning.MomentText.{IsMomentInText}

-- midnight of a date at offset 0
abbrev pub IsMidnight : CivilDate → DateTime → Type 0
IsMidnight d dt = SameDate (civil_date dt) d × (time_nanos (civil_time dt) ≡ 0) × (offset_seconds dt ≡ pos 0)

-- midnight of the date that a string writes
abbrev pub IsMidnightText : DateTime → Form DateTime
IsMidnightText now bytes dt = (d : CivilDate) × IsDateText bytes now d × IsMidnight d dt

-- the date time that a string writes, otherwise midnight of the date that it writes, where `now` and `today` are this
-- moment
abbrev pub IsPlainTextAt : DateTime → Form DateTime
IsPlainTextAt now = first (λ bytes dt. IsDateTimeText bytes now dt) (IsMidnightText now)

-- the same, otherwise the date time of another spelling
abbrev pub IsTextAt : DateTime → Form DateTime
IsTextAt now = first (IsPlainTextAt now) IsMomentInText

-- the same without such a moment: `now` and `today` mean none, and any other string means the same at each moment
abbrev pub IsMomentText : Option DateTime → Form DateTime
IsMomentText (Some now) bytes dt = IsTextAt now bytes dt
IsMomentText None bytes dt = (¬ (IsNow bytes)) × ((now : DateTime) → IsTextAt now bytes dt)

-- a number is the seconds since 1970, and a date its midnight
abbrev pub IsMomentOfScalar : Option DateTime → Scal → DateTime → Type 0
IsMomentOfScalar now (integer n) dt = IsUnixTime n dt
IsMomentOfScalar now (boolean b) dt = ⊥
IsMomentOfScalar now (text bytes) dt = IsMomentText now bytes dt
IsMomentOfScalar now (date d) dt = IsMidnight d dt
IsMomentOfScalar now (date_time e) dt = dt ≡ e

abbrev pub IsMomentOf : Option DateTime → Tree → DateTime → Type 0
IsMomentOf now nil dt = ⊥
IsMomentOf now (state s) dt = ⊥
IsMomentOf now (scalar x) dt = IsMomentOfScalar now x dt
IsMomentOf now (array ts) dt = ⊥
IsMomentOf now (object ms) dt = ⊥
