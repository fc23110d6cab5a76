-- The texts that dates and date times print.
use Rattle.std.specs.Prelude.{
  ◌≡◌,
  ◌≤ℤ◌,
  ℕ,
  zero,
  suc,
  ◌+◌,
  ◌/◌,
  ◌%◌,
  ◌^◌,
  ◌==◌,
  if◌then◌else◌,
  ℤ,
  pos,
  negsuc,
  unsigned_abs,
  List,
  [],
  ◌∷◌,
  ◌++◌,
}
use Rattle.std.specs.Str.{byte}
use Rattle.jiff_core.specs.declared.civil.date.Date.{Date as CivilDate}
use Rattle.jiff_core.specs.declared.civil.time.Time.{Time as CivilTime}
use Rattle.jiff_core.specs.Date.{weekday_of}
use Rattle.liquid_dates.specs.declared.date_time.DateTime.{DateTime}
use Rattle.liquid_dates.specs.declared.error.DateError.{DateError}
use Rattle.liquid_dates.specs.declared.error.DateError.TheVariants.{PartOutOfRange, OutsideYears, NoRfc2822Form, Memory}
use Rattle.liquid_dates.specs.meaning.Instant.{civil_date, civil_time, offset_seconds, nanosecond}
use Rattle.liquid_dates.specs.meaning.Names.{short_month_name, short_weekday_name}
use Rattle.liquid_dates.specs.meaning.Bytes.{colon, dash, dot, plus, space}

-- a number below 100
abbrev pub two_digits : ℕ → List ℕ
two_digits n = (byte "0" + n / 10) ∷ (byte "0" + n % 10) ∷ []

-- a number below 10000
abbrev pub four_digits : ℕ → List ℕ
four_digits n = two_digits (n / 100) ++ two_digits (n % 100)

-- four digits, after a `-` for a year before 0
unfoldable pub year_text : ℤ → List ℕ
year_text (pos n) = four_digits n
year_text (negsuc n) = dash ∷ four_digits (suc n)

-- `YYYY-MM-DD`
unfoldable pub date_text : CivilDate → List ℕ
date_text d = year_text d.year ++ (dash ∷ (two_digits d.month ++ (dash ∷ two_digits d.day)))

-- `HH:MM:SS`
unfoldable pub clock_text : CivilTime → List ℕ
clock_text t = two_digits t.hour ++ (colon ∷ (two_digits t.minute ++ (colon ∷ two_digits t.second)))

-- n as the last k places of a fraction, up to its last digit that is not 0
unfoldable pub fraction_digits : ℕ → ℕ → List ℕ
fraction_digits zero n = []
fraction_digits (suc k) n =
    (byte "0" + n / 10 ^ k) ∷ (if n % 10 ^ k == 0 then [] else fraction_digits k (n % 10 ^ k))

-- `.` and the fraction of a second without its last zeros, if it is not 0
unfoldable pub fraction_text : ℕ → List ℕ
fraction_text nano = if nano == 0 then [] else dot ∷ fraction_digits 9 nano

-- `+`, or `-` for a negative offset
abbrev pub sign_of : ℤ → ℕ
sign_of (pos n) = plus
sign_of (negsuc n) = dash

-- `+hhmm`, for the whole minutes of the offset's size
unfoldable pub offset_text : ℤ → List ℕ
offset_text seconds =
    sign_of seconds ∷ (two_digits (unsigned_abs seconds / 3600) ++ two_digits (unsigned_abs seconds / 60 % 60))

-- `YYYY-MM-DD HH:MM:SS +hhmm`, with the fraction after the seconds
abbrev pub date_time_text : DateTime → List ℕ
date_time_text dt =
    date_text (civil_date dt) ++ (space ∷ (clock_text (civil_time dt) ++ (fraction_text (nanosecond dt)
    ++ (space ∷ offset_text (offset_seconds dt)))))

-- `Www, DD`
unfoldable pub mail_day_text : CivilDate → List ℕ
mail_day_text d = short_weekday_name (weekday_of d) ++ (byte "," ∷ space ∷ two_digits d.day)

-- `Www, DD Mon YYYY`
unfoldable pub mail_date_text : CivilDate → List ℕ
mail_date_text d = mail_day_text d ++ (space ∷ (short_month_name d.month ++ (space ∷ year_text d.year)))

-- `Www, DD Mon YYYY HH:MM:SS +hhmm`
abbrev pub rfc2822_text : DateTime → List ℕ
rfc2822_text dt =
    mail_date_text (civil_date dt)
    ++ (space ∷ (clock_text (civil_time dt) ++ (space ∷ offset_text (offset_seconds dt))))

-- the year is 1900 or later, and the offset is whole minutes
abbrev pub HasRfc2822Form : DateTime → Type 0
HasRfc2822Form dt =
    (pos 1900 ≤ℤ (civil_date dt).year) × (unsigned_abs (offset_seconds dt) % 60 ≡ 0)

-- which error there is: no form, or out of memory if there is a form
abbrev pub IsRfc2822Refusal : DateTime → DateError → Type 0
IsRfc2822Refusal dt NoRfc2822Form = ¬ (HasRfc2822Form dt)
IsRfc2822Refusal dt Memory = HasRfc2822Form dt
IsRfc2822Refusal dt PartOutOfRange = ⊥
IsRfc2822Refusal dt OutsideYears = ⊥
