-- A law of stamps of date times.
use Rattle.std.specs.Prelude.{◌≡◌, ℕ, ◌/◌, ◌%◌, ◌<◌, ℤ, unsigned_abs, List, ◌∷◌, ◌++◌, Some}
use Rattle.std.specs.Str.{byte}
use Rattle.liquid_dates.specs.meaning.Bytes.{colon, dash}
use Rattle.liquid_dates.specs.meaning.Printed.{four_digits, sign_of, two_digits}
use Rattle.filter_dates.specs.declared.fields.Clock.{Clock}
use Rattle.filter_dates.specs.declared.fields.Day.{Day}
use Rattle.filter_dates.specs.declared.fields.Fields.{Fields}
use Rattle.filter_dates.specs.meaning.MomentText.{fields_of}

-- `YYYY-MM-DD`
abbrev pub day_stamp : Day → List ℕ
day_stamp d = four_digits d.year ++ (dash ∷ (two_digits d.month ++ (dash ∷ two_digits d.day)))

-- `HH:MM:SS`
abbrev pub clock_stamp : Clock → List ℕ
clock_stamp t = two_digits t.hour ++ (colon ∷ (two_digits t.minute ++ (colon ∷ two_digits t.second)))

-- `+hh:mm`
abbrev pub offset_stamp : ℤ → List ℕ
offset_stamp z = sign_of z ∷ (two_digits (unsigned_abs z / 3600) ++ (colon ∷ two_digits (unsigned_abs z / 60 % 60)))

-- the form of RFC 3339
abbrev pub stamp : Fields → List ℕ
stamp f = day_stamp f.day ++ (byte "T" ∷ (clock_stamp f.clock ++ offset_stamp f.offset))

-- numbers with so many digits, a whole second and an offset of whole minutes
pub record FitsStamp (f : Fields) : Type 0 where
  pub year : f.day.year < 10000
  pub month : f.day.month < 100
  pub day : f.day.day < 100
  pub hour : f.clock.hour < 100
  pub minute : f.clock.minute < 100
  pub second : f.clock.second < 100
  pub nanosecond : f.clock.nanosecond ≡ 0
  pub hours : unsigned_abs f.offset < 360_000
  pub minutes : unsigned_abs f.offset % 60 ≡ 0

-- such a stamp writes the numbers that it was made of
abbrev pub StampsAreRead : Type 0
StampsAreRead = (f : Fields) → FitsStamp f → fields_of (stamp f) ≡ Some f
