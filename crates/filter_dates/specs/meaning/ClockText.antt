-- Times of day and offsets in texts.
use Rattle.std.specs.Prelude.{
  ℕ,
  ◌+◌,
  ◌*◌,
  ◌||◌,
  ◌==◌,
  Bool,
  if◌then◌else◌,
  ℤ,
  pos,
  neg_ℤ,
  List,
  [],
  ◌∷◌,
  map,
  codes,
  length,
  drop,
  take,
  Option,
  Some,
  None,
}
use Rattle.std.specs.Char.{to_ascii_lowercase}
use Rattle.std.specs.List.{take_while}
use Rattle.std.specs.Str.{byte, bytes_eq}
use Rattle.liquid_dates.specs.meaning.Bytes.{colon, dash, dot, plus}
use Rattle.liquid_dates.specs.meaning.Flags.{is_digit}
use Rattle.filter_dates.specs.declared.fields.Clock.{Clock}
use Rattle.filter_dates.specs.meaning.Digits.{◌>>=◌, ninths_place, sixtieths, two_digits}

-- the fraction of a second after a dot, in nanoseconds; nothing is no fraction
abbrev pub fraction : List ℕ → Option ℕ
fraction [] = Some 0
fraction (c ∷ digits) = if c == dot then ninths_place digits else None

-- `:SS` and perhaps a fraction after these hours and minutes; nothing is the whole minute
abbrev pub seconds_after : ℕ → ℕ → List ℕ → Option Clock
seconds_after hour minute [] = Some (record { hour = hour; minute = minute; second = 0; nanosecond = 0 })
seconds_after hour minute (c ∷ a ∷ b ∷ rest) =
    if c == colon then (do
      second ← two_digits a b
      nanosecond ← fraction rest
      Some (record { hour = hour; minute = minute; second = second; nanosecond = nanosecond })) else None
seconds_after hour minute other = None

-- `:MM` and what follows it
abbrev pub minutes_after : ℕ → List ℕ → Option Clock
minutes_after hour (c ∷ a ∷ b ∷ rest) =
    if c == colon then (two_digits a b >>= (λ minute. seconds_after hour minute rest)) else None
minutes_after hour other = None

-- `HH:MM`, `HH:MM:SS` or `HH:MM:SS.fraction`, where the hour may have one digit
abbrev pub clock_of : List ℕ → Option Clock
clock_of (a ∷ b ∷ rest) =
    if b == colon then (two_digits (byte "0") a >>= (λ hour. minutes_after hour (b ∷ rest)))
    else (two_digits a b >>= (λ hour. minutes_after hour rest))
clock_of other = None

-- the minutes of an offset, perhaps after a colon; nothing is none
abbrev pub offset_minutes : List ℕ → Option ℕ
offset_minutes [] = Some 0
offset_minutes (a ∷ b ∷ []) = sixtieths a b
offset_minutes (c ∷ a ∷ b ∷ []) = if c == colon then sixtieths a b else None
offset_minutes other = None

-- hours and minutes of an offset, in seconds
abbrev pub offset_size : List ℕ → Option ℕ
offset_size (a ∷ b ∷ rest) = do
  hours ← two_digits a b
  minutes ← offset_minutes rest
  Some (hours * 3600 + minutes * 60)
offset_size other = None

-- whether a string is a name of the offset 0
abbrev pub is_utc : List ℕ → Bool
is_utc text =
    bytes_eq (map to_ascii_lowercase text) (codes "z") || (bytes_eq (map to_ascii_lowercase text) (codes "utc")
    || bytes_eq (map to_ascii_lowercase text) (codes "gmt"))

-- a signed offset in seconds
abbrev pub signed_offset : List ℕ → Option ℤ
signed_offset [] = None
signed_offset (c ∷ rest) =
    if c == plus then (offset_size rest >>= (λ n. Some (pos n)))
    else if c == dash then (offset_size rest >>= (λ n. Some (neg_ℤ (pos n)))) else None

-- an offset: `Z`, `UTC`, `GMT`, `+hh`, `+hhmm` or `+hh:mm`; nothing is the offset 0
abbrev pub offset_of : List ℕ → Option ℤ
offset_of [] = Some (pos 0)
offset_of (c ∷ rest) = if is_utc (c ∷ rest) then Some (pos 0) else signed_offset (c ∷ rest)

-- a byte of a time of day
abbrev pub is_clock_byte : ℕ → Bool
is_clock_byte b = is_digit b || ((b == colon) || (b == dot))

-- the number of bytes of the time of day with which a string begins
abbrev pub clock_length : List ℕ → ℕ
clock_length text = length (take_while is_clock_byte text)

-- a time of day and an offset
abbrev pub time_of : List ℕ → List ℕ → Option (Clock × ℤ)
time_of clock offset = do
  time ← clock_of clock
  seconds ← offset_of offset
  Some (time, seconds)

-- an offset right after a time of day
abbrev pub time_in_one : List ℕ → Option (Clock × ℤ)
time_in_one text = time_of (take (clock_length text) text) (drop (clock_length text) text)

-- midnight at offset 0
abbrev pub midnight : Clock × ℤ
midnight = (record { hour = 0; minute = 0; second = 0; nanosecond = 0 }, pos 0)

-- the words after a date: none, a time, or a time and an offset
abbrev pub time_in_words : List (List ℕ) → Option (Clock × ℤ)
time_in_words [] = Some midnight
time_in_words (time ∷ []) = time_in_one time
time_in_words (clock ∷ offset ∷ []) = time_of clock offset
time_in_words other = None

-- the same, for the words after a `T` and what follows it
abbrev pub time_after_mark : List ℕ → List (List ℕ) → Option (Clock × ℤ)
time_after_mark time [] = time_in_one time
time_after_mark clock (offset ∷ []) = time_of clock offset
time_after_mark clock other = None
