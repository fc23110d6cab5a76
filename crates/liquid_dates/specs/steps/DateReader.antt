-- Readers of date texts. They connect the code to the forms of `DateText`: what they read is proved to be what those
-- forms relate.
use Rattle.std.specs.Prelude.{
  true,
  false,
  ◌≡◌,
  ℕ,
  zero,
  suc,
  ◌+◌,
  ◌-◌,
  ◌*◌,
  ◌^◌,
  Bool,
  ◌&&◌,
  ◌==◌,
  nat_lt,
  if◌then◌else◌,
  ℤ,
  pos,
  neg_ℤ,
  List,
  [],
  ◌∷◌,
  take,
  drop,
  length,
  Option,
  Some,
  None,
  option_map,
  option_and_then,
}
use Rattle.std.specs.Borrow.{Bor}
use Rattle.std.specs.Str.{bytes_eq}
use Rattle.std.specs.Str.{byte}
use Rattle.jiff_core.specs.declared.civil.date.Date.{Date as CivilDate}
use Rattle.liquid_dates.specs.declared.date_time.DateTime.{DateTime}
use Rattle.liquid_dates.specs.meaning.Instant.{civil_date, civil_time, nanosecond, offset_seconds}
use Rattle.liquid_dates.specs.declared.reading.Ymd.{Ymd}
use Rattle.liquid_dates.specs.declared.stamps.Clock.{Clock}
use Rattle.liquid_dates.specs.declared.stamps.Stamp.{Stamp}
use Rattle.liquid_dates.specs.meaning.Flags.{is_digit}
use Rattle.liquid_dates.specs.meaning.Names.{month_name, short_month_name, short_weekday_name}
use Rattle.liquid_dates.specs.meaning.Bytes.{colon, dash, dot, plus, slash, space}

-- a value, and the rest after it
abbrev pub Read : Type 0 → Type 0
Read A = Option (A × List ℕ)

-- what a private function read
abbrev pub read_of : {A : Type 0} → Option (A × Bor (List ℕ)) → Read A
read_of r = option_map (λ p. (p.0, p.1.now)) r

-- the rest after a byte at the front
abbrev pub after_byte : ℕ → List ℕ → Option (List ℕ)
after_byte byte [] = None
after_byte byte (c ∷ cs) = if c == byte then Some cs else None

-- two digits of a number below a limit
unfoldable pub read_two_digits : ℕ → List ℕ → Read ℕ
read_two_digits limit (a ∷ b ∷ rest) =
    if is_digit a && (is_digit b && nat_lt (10 * (a - byte "0") + (b - byte "0")) limit) then Some
    (10 * (a - byte "0") + (b - byte "0"), rest) else None
read_two_digits limit _ = None

infixl 10 ◌>>=◌
abbrev pub ◌>>=◌ : {A B : Type 0} → Option A → (A → Option B) → Option B
o >>= f = option_and_then f o

-- four digits
unfoldable pub read_four_digits : List ℕ → Read ℕ
read_four_digits text = do
  century ← read_two_digits 100 text
  year ← read_two_digits 100 century.1
  Some (100 * century.0 + year.0, year.1)

-- a year, which may follow a `-`
abbrev pub year_after : Option (List ℕ) → List ℕ → Read ℤ
year_after (Some following) text = option_map (λ y. (neg_ℤ (pos y.0), y.1)) (read_four_digits following)
year_after None text = option_map (λ y. (pos y.0, y.1)) (read_four_digits text)

unfoldable pub read_year : List ℕ → Read ℤ
read_year text = year_after (after_byte dash text) text

-- a reader, a byte after it, and a reader after that
abbrev pub joined_at : {A B : Type 0} → (List ℕ → Read A) → ℕ → (List ℕ → Read B) → List ℕ → Read (A × B)
joined_at r byte s text = do
  a ← r text
  rest ← after_byte byte a.1
  b ← s rest
  Some ((a.0, b.0), b.1)

-- the value of a whole text
abbrev pub whole_of : {A : Type 0} → Read A → Option A
whole_of None = None
whole_of (Some (a, [])) = Some a
whole_of (Some (a, c ∷ cs)) = None

-- the first of n numbers from m on that has the name
unfoldable pub find_name : (ℕ → List ℕ) → List ℕ → ℕ → ℕ → Option ℕ
find_name name front zero m = None
find_name name front (suc n) m = if bytes_eq (name m) front then Some m else find_name name front n (m + 1)

-- three letters that name a number
unfoldable pub read_short_name : (ℕ → List ℕ) → ℕ → ℕ → List ℕ → Read ℕ
read_short_name name count m (a ∷ b ∷ c ∷ rest) =
    option_map (λ k. (k, rest)) (find_name name (a ∷ b ∷ c ∷ []) count m)
read_short_name name count m _ = None

-- the rest after a text at the front
unfoldable pub following_text : List ℕ → List ℕ → Option (List ℕ)
following_text text all = if bytes_eq (take (length text) all) text then Some (drop (length text) all) else None

-- the name of a month: its first three letters, then the others
unfoldable pub read_month : List ℕ → Read ℕ
read_month text = do
  month ← read_short_name short_month_name 12 1 text
  rest ← following_text (drop 3 (month_name month.0)) month.1
  Some (month.0, rest)

abbrev pub read_short_month : List ℕ → Read ℕ
read_short_month = read_short_name short_month_name 12 1

abbrev pub read_weekday : List ℕ → Read ℕ
read_weekday = read_short_name short_weekday_name 7 0

-- the forms of a date
unfoldable pub read_iso_date : List ℕ → Read (ℤ × (ℕ × ℕ))
read_iso_date = joined_at read_year dash (joined_at (read_two_digits 100) dash (read_two_digits 100))

unfoldable pub read_long_date : List ℕ → Read (ℕ × (ℕ × ℤ))
read_long_date = joined_at (read_two_digits 100) space (joined_at read_month space read_year)

unfoldable pub read_short_date : List ℕ → Read (ℕ × (ℕ × ℤ))
read_short_date = joined_at (read_two_digits 100) space (joined_at read_short_month space read_year)

unfoldable pub read_us_date : List ℕ → Read (ℕ × (ℕ × ℤ))
read_us_date = joined_at (read_two_digits 100) slash (joined_at (read_two_digits 100) slash read_year)

unfoldable pub read_clock : List ℕ → Read (ℕ × (ℕ × ℕ))
read_clock = joined_at (read_two_digits 24) colon (joined_at (read_two_digits 60) colon (read_two_digits 60))

-- the parts of a date, in the order in which a form writes them
abbrev pub by_year : Ymd × List ℕ → (ℤ × (ℕ × ℕ)) × List ℕ
by_year p = ((p.0.year, (p.0.month, p.0.day)), p.1)

abbrev pub by_day : Ymd × List ℕ → (ℕ × (ℕ × ℤ)) × List ℕ
by_day p = ((p.0.day, (p.0.month, p.0.year)), p.1)

abbrev pub by_month : Ymd × List ℕ → (ℕ × (ℕ × ℤ)) × List ℕ
by_month p = ((p.0.month, (p.0.day, p.0.year)), p.1)

-- the whole text was read as the parts of the date
abbrev pub IsWholeDate : Option (Ymd × Bor (List ℕ)) → CivilDate → Type 0
IsWholeDate None d = ⊥
IsWholeDate (Some (ymd, rest)) d =
    (rest.now ≡ []) × (ymd.year ≡ d.year) × (ymd.month ≡ d.month) × (ymd.day ≡ d.day)

-- an offset after its sign, in seconds
unfoldable pub read_hours : List ℕ → Read ℕ
read_hours text = do
  hours ← read_two_digits 100 text
  minutes ← read_two_digits 60 hours.1
  Some (hours.0 * 3600 + minutes.0 * 60, minutes.1)

abbrev pub sign_after : Option (List ℕ) → Option (List ℕ) → Read ℤ
sign_after (Some rest) minus = option_map (λ z. (pos z.0, z.1)) (read_hours rest)
sign_after None (Some rest) = option_map (λ z. (neg_ℤ (pos z.0), z.1)) (read_hours rest)
sign_after None None = None

unfoldable pub read_offset : List ℕ → Read ℤ
read_offset text = sign_after (after_byte plus text) (after_byte dash text)

-- one digit, or two
abbrev pub read_one_digit : List ℕ → Read ℕ
read_one_digit [] = None
read_one_digit (c ∷ cs) = if is_digit c then Some (c - byte "0", cs) else None

abbrev pub or_one_digit : Read ℕ → List ℕ → Read ℕ
or_one_digit (Some x) text = Some x
or_one_digit None text = read_one_digit text

unfoldable pub read_short_day : List ℕ → Read ℕ
read_short_day text = or_one_digit (read_two_digits 100 text) text

-- the number of digits, up to ten, the number that they write, and the rest after them
abbrev pub digits_from : ℕ → ℕ → List ℕ → (ℕ × ℕ) × List ℕ
digits_from count value [] = ((count, value), [])
digits_from count value (c ∷ cs) =
    if is_digit c && nat_lt count 10 then digits_from (count + 1) (value * 10 + (c - byte "0")) cs else ((count, value), c ∷ cs)

-- one to nine digits of a fraction, in nanoseconds
abbrev pub fraction_of_digits : ℕ → ℕ → List ℕ → Read ℕ
fraction_of_digits count value rest =
    if nat_lt 0 count && nat_lt count 10 then Some (value * 10 ^ (9 - count), rest) else None

unfoldable pub read_fraction : List ℕ → Read ℕ
read_fraction text =
    fraction_of_digits (digits_from 0 0 text).0.0 (digits_from 0 0 text).0.1 (digits_from 0 0 text).1

-- the forms of a date with a time
unfoldable pub read_iso_stamp : List ℕ → Read ((ℤ × (ℕ × ℕ)) × (ℕ × (ℕ × ℕ)))
read_iso_stamp = joined_at read_iso_date space read_clock

unfoldable pub read_fraction_stamp : List ℕ → Read ((ℤ × (ℕ × ℕ)) × ((ℕ × (ℕ × ℕ)) × ℕ))
read_fraction_stamp = joined_at read_iso_date space (joined_at read_clock dot read_fraction)

unfoldable pub read_long_stamp : List ℕ → Read ((ℕ × (ℕ × ℤ)) × (ℕ × (ℕ × ℕ)))
read_long_stamp = joined_at read_long_date space read_clock

unfoldable pub read_short_stamp : List ℕ → Read ((ℕ × (ℕ × ℤ)) × (ℕ × (ℕ × ℕ)))
read_short_stamp = joined_at read_short_date space read_clock

unfoldable pub read_us_stamp : List ℕ → Read ((ℕ × (ℕ × ℤ)) × (ℕ × (ℕ × ℕ)))
read_us_stamp = joined_at read_us_date space read_clock

unfoldable pub read_weekday_stamp : List ℕ → Read (ℕ × (ℕ × (ℕ × ((ℕ × (ℕ × ℕ)) × ℤ))))
read_weekday_stamp =
    joined_at read_weekday space (joined_at read_short_month space (joined_at read_short_day space (joined_at read_clock space read_year)))

-- the clock as a form writes it
abbrev pub by_clock : Clock × List ℕ → (ℕ × (ℕ × ℕ)) × List ℕ
by_clock p = ((p.0.hour, (p.0.minute, p.0.second)), p.1)

-- a stamp as each form writes it
abbrev pub stamp_clock : Stamp → ℕ × (ℕ × ℕ)
stamp_clock s = (s.clock.hour, (s.clock.minute, s.clock.second))

abbrev pub stamp_by_year : Stamp × List ℕ → ((ℤ × (ℕ × ℕ)) × (ℕ × (ℕ × ℕ))) × List ℕ
stamp_by_year p = (((p.0.date.year, (p.0.date.month, p.0.date.day)), stamp_clock p.0), p.1)

abbrev pub stamp_by_fraction : Stamp × List ℕ → ((ℤ × (ℕ × ℕ)) × ((ℕ × (ℕ × ℕ)) × ℕ)) × List ℕ
stamp_by_fraction p = (((p.0.date.year, (p.0.date.month, p.0.date.day)), (stamp_clock p.0, p.0.nanosecond)), p.1)

abbrev pub stamp_by_day : Stamp × List ℕ → ((ℕ × (ℕ × ℤ)) × (ℕ × (ℕ × ℕ))) × List ℕ
stamp_by_day p = (((p.0.date.day, (p.0.date.month, p.0.date.year)), stamp_clock p.0), p.1)

abbrev pub stamp_by_month : Stamp × List ℕ → ((ℕ × (ℕ × ℤ)) × (ℕ × (ℕ × ℕ))) × List ℕ
stamp_by_month p = (((p.0.date.month, (p.0.date.day, p.0.date.year)), stamp_clock p.0), p.1)

abbrev pub stamp_by_weekday : (ℕ × Stamp) × List ℕ → (ℕ × (ℕ × (ℕ × ((ℕ × (ℕ × ℕ)) × ℤ)))) × List ℕ
stamp_by_weekday p =
    ((p.0.0, (p.0.1.date.month, (p.0.1.date.day, (stamp_clock p.0.1, p.0.1.date.year)))), p.1)

-- an offset after a space
abbrev pub space_offset : List ℕ → Read ℤ
space_offset text = option_and_then read_offset (after_byte space text)

-- the offset of what is left after a date with a time: the one given there, or 0 if nothing is left
abbrev pub offset_end : Bool → List ℕ → Option ℤ
offset_end true rest = whole_of (space_offset rest)
offset_end false [] = Some (pos 0)
offset_end false (c ∷ cs) = None

-- the parts of a stamp are those of the date time
abbrev pub HasStamp : Stamp → DateTime → Type 0
HasStamp s dt =
    (s.date.year ≡ (civil_date dt).year) × (s.date.month ≡ (civil_date dt).month) × (s.date.day ≡ (civil_date dt).day)
    × (s.clock.hour ≡ (civil_time dt).hour) × (s.clock.minute ≡ (civil_time dt).minute) × (s.clock.second ≡ (civil_time dt).second)
    × (s.nanosecond ≡ nanosecond dt)

-- the whole text was read as the parts of the date time
abbrev pub IsStamped : Bool → Option (Stamp × Bor (List ℕ)) → DateTime → Type 0
IsStamped given None dt = ⊥
IsStamped given (Some (s, rest)) dt =
    (offset_end given rest.now ≡ Some (offset_seconds dt)) × HasStamp s dt

-- a stamp without its weekday
abbrev pub without_weekday : (ℕ × Stamp) × Bor (List ℕ) → Stamp × Bor (List ℕ)
without_weekday p = (p.0.1, p.1)
