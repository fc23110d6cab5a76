-- The texts that are read as dates and date times: each form relates a text to what it writes.
use Rattle.std.specs.Prelude.{
  ◌≡◌,
  ◌≢◌,
  ◌⊎◌,
  ℕ,
  ◌+◌,
  ◌-◌,
  ◌*◌,
  ◌^◌,
  ◌<◌,
  Bool,
  true,
  false,
  ◌&&◌,
  ◌||◌,
  ◌==◌,
  if◌then◌else◌,
  ℤ,
  pos,
  neg_ℤ,
  List,
  [],
  ◌∷◌,
  ◌++◌,
  length,
  drop,
  codes,
  map,
}
use Rattle.std.specs.Prelude.{FitsSigned}
use Rattle.std.specs.Int.{IsInRange, w64}
use Rattle.std.specs.List.{list_all}
use Rattle.std.specs.Char.{to_ascii_lowercase}
use Rattle.std.specs.Str.{trim}
use Rattle.std.specs.Str.Parse.{IsNumeral, without_leading_sign, signed_digits_value}
use Rattle.std.specs.Str.{byte}
use Rattle.jiff_core.specs.declared.civil.date.Date.{Date as CivilDate}
use Rattle.jiff_core.specs.declared.civil.time.Time.{Time as CivilTime}
use Rattle.liquid_dates.specs.declared.date_time.DateTime.{DateTime}
use Rattle.liquid_dates.specs.meaning.Instant.{civil_date, civil_time, offset_seconds, unix_seconds, nanosecond}
use Rattle.liquid_dates.specs.meaning.Names.{month_name, short_month_name, short_weekday_name}
use Rattle.liquid_dates.specs.meaning.Flags.{is_digit, digits_number}
use Rattle.liquid_dates.specs.meaning.Printed.{two_digits, four_digits}
use Rattle.liquid_dates.specs.meaning.Bytes.{colon, dash, dot, plus, slash, space}

-- a relation between a text and a value that it writes
abbrev pub Form : Type 0 → Type 1
Form A = List ℕ → A → Type 0

-- the first form that fits the text: the first one, or the second if the first fits with no value
abbrev pub first : {A : Type 0} → Form A → Form A → Form A
first {A} F G text a = F text a ⊎ (((b : A) → ¬ (F text b)) × G text a)

-- the texts that write something
abbrev pub Texts : Type 1
Texts = List ℕ → Type 0

-- a text of the first, a byte after it, and a text of the second
abbrev pub joined : Texts → ℕ → Texts → Texts
joined one byte other text =
    (front : List ℕ) × (back : List ℕ) × (text ≡ front ++ (byte ∷ back)) × one front × other back

-- two digits of a number below a limit
abbrev pub two_below : ℕ → ℕ → Texts
two_below limit n text = (n < limit) × (text ≡ two_digits n)

-- four digits of a year, which may follow a `-`
abbrev pub year_texts : ℤ → Texts
year_texts y text =
    (n : ℕ) × (n < 10000) × (((text ≡ four_digits n) × (y ≡ pos n)) ⊎ ((text ≡ dash ∷ four_digits n) × (y ≡ neg_ℤ (pos n))))

-- the name of a month
abbrev pub month_texts : (ℕ → List ℕ) → ℕ → Texts
month_texts name m text = IsInRange 1 12 m × (text ≡ name m)

-- the first three letters of a weekday
abbrev pub weekday_texts : ℕ → Texts
weekday_texts w text = (w < 7) × (text ≡ short_weekday_name w)

-- a day of one or two digits
abbrev pub short_day : ℕ → Texts
short_day n text = ((n < 10) × (text ≡ (byte "0" + n) ∷ [])) ⊎ two_below 100 n text

-- one to nine digits of a fraction, in nanoseconds
abbrev pub fraction_texts : ℕ → Texts
fraction_texts nano text =
    (list_all is_digit text ≡ true) × IsInRange 1 9 (length text) × (nano ≡ digits_number text * 10 ^ (9 - length text))

-- `YYYY-MM-DD`
abbrev pub dashed : CivilDate → Texts
dashed d = joined (year_texts d.year) dash (joined (two_below 100 d.month) dash (two_below 100 d.day))

-- `DD Month YYYY`
abbrev pub day_month : (ℕ → List ℕ) → CivilDate → Texts
day_month name d =
    joined (two_below 100 d.day) space (joined (month_texts name d.month) space (year_texts d.year))

-- `MM/DD/YYYY`
abbrev pub slashed : CivilDate → Texts
slashed d = joined (two_below 100 d.month) slash (joined (two_below 100 d.day) slash (year_texts d.year))

-- `HH:MM:SS`
abbrev pub clock : CivilTime → Texts
clock t = joined (two_below 24 t.hour) colon (joined (two_below 60 t.minute) colon (two_below 60 t.second))

-- the forms of a date
unfoldable pub iso_date : Form CivilDate
iso_date text d = dashed d text

unfoldable pub long_date : Form CivilDate
long_date text d = day_month month_name d text

unfoldable pub short_date : Form CivilDate
short_date text d = day_month short_month_name d text

-- `DD Month YYYY`, `DD Mon YYYY` or `YYYY-MM-DD`
abbrev pub date_forms : Form CivilDate
date_forms = first long_date (first short_date iso_date)

-- the date of a text at a moment: for `today` the date of the moment, otherwise the date of the first form that fits
abbrev pub IsDateText : List ℕ → DateTime → CivilDate → Type 0
IsDateText text moment d =
    ((text ≡ codes "today") × (d ≡ civil_date moment)) ⊎ ((text ≢ codes "today") × date_forms text d)

-- two dates have the same parts
abbrev pub SameDate : CivilDate → CivilDate → Type 0
SameDate a b = (a.year ≡ b.year) × (a.month ≡ b.month) × (a.day ≡ b.day)

-- `+` or `-`, two digits of hours and two of minutes
abbrev pub offset_texts : ℤ → Texts
offset_texts z text =
    (h : ℕ) × (m : ℕ) × (h < 100) × (m < 60)
    × (((text ≡ plus ∷ (two_digits h ++ two_digits m)) × (z ≡ pos (h * 3600 + m * 60)))
    ⊎ ((text ≡ dash ∷ (two_digits h ++ two_digits m)) × (z ≡ neg_ℤ (pos (h * 3600 + m * 60)))))

-- a text of the date, a space and the clock
abbrev pub timed : Texts → DateTime → Texts
timed date dt = joined date space (clock (civil_time dt))

-- the offset after a space
abbrev pub at_offset : Texts → DateTime → Texts
at_offset local dt = joined local space (offset_texts (offset_seconds dt))

-- `YYYY-MM-DD HH:MM:SS off`
unfoldable pub iso_date_time : Form DateTime
iso_date_time text dt =
    at_offset (timed (dashed (civil_date dt)) dt) dt text × (nanosecond dt ≡ 0)

-- `YYYY-MM-DD HH:MM:SS.fraction off`
unfoldable pub fraction_date_time : Form DateTime
fraction_date_time text dt =
    at_offset (joined (dashed (civil_date dt)) space (joined (clock (civil_time dt)) dot (fraction_texts (nanosecond dt)))) dt text

-- `DD Month YYYY HH:MM:SS off`
unfoldable pub long_date_time : Form DateTime
long_date_time text dt =
    at_offset (timed (day_month month_name (civil_date dt)) dt) dt text × (nanosecond dt ≡ 0)

-- `DD Mon YYYY HH:MM:SS off`
unfoldable pub short_date_time : Form DateTime
short_date_time text dt =
    at_offset (timed (day_month short_month_name (civil_date dt)) dt) dt text × (nanosecond dt ≡ 0)

-- `MM/DD/YYYY HH:MM:SS off`
unfoldable pub us_date_time : Form DateTime
us_date_time text dt =
    at_offset (timed (slashed (civil_date dt)) dt) dt text × (nanosecond dt ≡ 0)

-- `Mon D HH:MM:SS YYYY`
abbrev pub month_first : DateTime → Texts
month_first dt =
    joined (month_texts short_month_name (civil_date dt).month) space
    (joined (short_day (civil_date dt).day) space (joined (clock (civil_time dt)) space (year_texts (civil_date dt).year)))

-- `Www Mon D HH:MM:SS YYYY off`, of any weekday
unfoldable pub weekday_date_time : Form DateTime
weekday_date_time text dt =
    (w : ℕ) × at_offset (joined (weekday_texts w) space (month_first dt)) dt text × (nanosecond dt ≡ 0)

-- the forms that begin with a day, a month or a weekday
abbrev pub day_forms : Form DateTime
day_forms = first long_date_time (first short_date_time (first us_date_time weekday_date_time))

abbrev pub date_time_forms : Form DateTime
date_time_forms = first iso_date_time (first fraction_date_time day_forms)

-- a sign, `0` or `1`, and three digits
abbrev pub is_offset_end : List ℕ → Bool
is_offset_end (a ∷ b ∷ c ∷ d ∷ e ∷ []) =
    ((a == plus) || (a == dash)) && (((b == byte "0") || (b == byte "1")) && (is_digit c && (is_digit d && is_digit e)))
is_offset_end _ = false

-- the text ends in that way
abbrev pub ends_in_offset : List ℕ → Bool
ends_in_offset text = is_offset_end (drop (length text - 5) text)

-- the text, with ` +0000` after it if no offset is given
abbrev pub with_given_offset : Bool → List ℕ → List ℕ
with_given_offset given text = if given then text else text ++ codes " +0000"

-- `now` or `today` in any case, with whitespace at both ends
abbrev pub IsNow : List ℕ → Type 0
IsNow text =
    (map to_ascii_lowercase (trim text) ≡ codes "now") ⊎ (map to_ascii_lowercase (trim text) ≡ codes "today")

-- the decimal number of 64 bits that a text writes
abbrev pub IsWholeNumber : List ℕ → ℤ → Type 0
IsWholeNumber text z =
    IsNumeral 10 (without_leading_sign text) × FitsSigned w64 (signed_digits_value 10 text) × (z ≡ signed_digits_value 10 text)

-- whole seconds since 1970 at offset 0
abbrev pub IsUnixTime : ℤ → DateTime → Type 0
IsUnixTime z dt = (unix_seconds dt ≡ z) × (nanosecond dt ≡ 0) × (offset_seconds dt ≡ pos 0)

-- the date time of a text that is not empty: the moment for `now` and `today`, otherwise unix seconds, otherwise the
-- first form that fits
abbrev pub IsDateTimeText : List ℕ → DateTime → DateTime → Type 0
IsDateTimeText text moment dt =
    (text ≢ []) × ((IsNow text × (dt ≡ moment)) ⊎ ((¬ (IsNow text)) × (((z : ℤ) × IsWholeNumber text z × IsUnixTime z dt)
    ⊎ (((z : ℤ) → ¬ (IsWholeNumber text z)) × date_time_forms (with_given_offset (ends_in_offset text) text) dt))))

-- two times of day show the same on a clock
abbrev pub SameClock : CivilTime → CivilTime → Type 0
SameClock a b = (a.hour ≡ b.hour) × (a.minute ≡ b.minute) × (a.second ≡ b.second)

-- two date times have the same parts
abbrev pub SameDateTime : DateTime → DateTime → Type 0
SameDateTime a b =
    SameDate (civil_date a) (civil_date b) × SameClock (civil_time a) (civil_time b) × (nanosecond a ≡ nanosecond b)
    × (offset_seconds a ≡ offset_seconds b)
