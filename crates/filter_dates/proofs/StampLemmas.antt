-- A stamp is read as the numbers that it was made of.
use Rattle.std.proofs.Common.{
  ◌≡◌,
  ◌≢◌,
  ℕ,
  suc,
  ◌+◌,
  ◌*◌,
  ◌/◌,
  ◌%◌,
  ◌<◌,
  ◌≤◌,
  true,
  false,
  List,
  [],
  ◌∷◌,
  ◌++◌,
  length,
  map,
  refl,
  sym,
  ap,
  ◌∙◌,
  arith,
  eqb,
  nat_le,
  ℤ,
  pos,
  negsuc,
  neg_ℤ,
  Some,
  IsAscii,
}
use Rattle.std.specs.Prelude.{unsigned_abs}
use Rattle.std.specs.Char.{is_whitespace}
use Rattle.std.specs.List.{All}
use Rattle.std.specs.Str.{chars}
use Rattle.std.proofs.lemmas.Bool.Decides.{nat_tests}
use Rattle.std.proofs.lemmas.Bool.{ne_eqb}
use Rattle.std.proofs.lemmas.List.Elements.{All-nil, All-cons, All-head, All-tail, All-append, All-weaker}
use Rattle.std.proofs.lemmas.Str.{chars-IsAscii, IsUtf8-from_ascii}
use Rattle.std.proofs.lemmas.Str.Ascii.{IsAscii-from_all}
use Rattle.liquid_dates.specs.meaning.Flags.{is_digit}
use Rattle.liquid_dates.specs.meaning.Names.{weekday_name}
use Rattle.liquid_dates.specs.meaning.Printed as printed
use Rattle.liquid_strings.specs.meaning.Split.{words}
use Rattle.liquid_strings.proofs.UrlLemmas.{swap, swapped}
use Rattle.liquid_strings.proofs.WordLemmas.{is_one_word}
use Rattle.filter_dates.specs.declared.fields.Clock.{Clock}
use Rattle.filter_dates.specs.declared.fields.Day.{Day}
use Rattle.filter_dates.specs.declared.fields.Fields.{Fields}
use Rattle.filter_dates.specs.laws.Stamps.{clock_stamp, day_stamp, offset_stamp, stamp, FitsStamp}
use Rattle.filter_dates.specs.meaning.ClockText.{clock_length, clock_of, offset_of, time_in_one}
use Rattle.filter_dates.specs.meaning.DayText.{day_in_numbers}
use Rattle.filter_dates.specs.meaning.Digits.{four_digits, sixtieths, two_digits}
use Rattle.filter_dates.specs.meaning.MomentText.{fields_in, fields_of, moment_words, without_weekday}

-- numbers
digit : (k : ℕ) → k < 10 → is_digit (48 + k) ≡ true
digit k h = grind (arith, nat_tests)

two_read : (n : ℕ) → n < 100 → two_digits (48 + n / 10) (48 + n % 10) ≡ Some n
two_read n h = rw (digit (n / 10) (omega arith), digit (n % 10) (omega arith)) (ap Some (omega arith))

sixty_read : (n : ℕ) → n < 60 → sixtieths (48 + n / 10) (48 + n % 10) ≡ Some n
sixty_read n h =
    let low : nat_le (48 + n / 10) 53 ≡ true = grind (arith, nat_tests) in
    rw (digit (n / 10) (omega arith), digit (n % 10) (omega arith), low) (ap Some (omega arith))

four_read : (n : ℕ) → n < 10000 → four_digits (printed.four_digits n) ≡ Some n
four_read n h = rw (two_read (n / 100) (omega arith), two_read (n % 100) (omega arith)) (ap Some (omega arith))

-- the parts
day_read : (d : Day) → d.year < 10000 → d.month < 100 → d.day < 100 → day_in_numbers (day_stamp d) ≡ Some d
day_read d y m n = rw (four_read d.year y, two_read d.month m, two_read d.day n) refl

clock_read : (t : Clock) → t.hour < 100 → t.minute < 100 → t.second < 100 → t.nanosecond ≡ 0 → clock_of (clock_stamp t) ≡ Some t
clock_read t h m s none =
    let apart : eqb (48 + t.hour % 10) 58 ≡ false = grind (arith, nat_tests) in
    rw (apart, two_read t.hour h, two_read t.minute m, two_read t.second s)
    (ap (λ n. Some (record { hour = t.hour; minute = t.minute; second = t.second; nanosecond = n })) (sym none))

offset_read : (z : ℤ) → unsigned_abs z < 360_000 → unsigned_abs z % 60 ≡ 0 → offset_of (offset_stamp z) ≡ Some z
offset_read (pos n) h whole =
    let size : n / 3600 * 3600 + n / 60 % 60 * 60 ≡ n = omega arith in
    rw (two_read (n / 3600) (omega arith), sixty_read (n / 60 % 60) (omega arith)) (ap (λ k. Some (pos k)) size)
offset_read (negsuc n) h whole =
    let size : suc n / 3600 * 3600 + suc n / 60 % 60 * 60 ≡ suc n = omega arith in
    rw (two_read (suc n / 3600) (omega arith), sixty_read (suc n / 60 % 60) (omega arith)) (ap (λ k. Some (neg_ℤ (pos k))) size)

-- the time of day is before the offset
before_offset : (t : Clock) (z : ℤ) → t.hour < 100 → t.minute < 100 → t.second < 100 → clock_length (clock_stamp t ++ offset_stamp z) ≡ 8
before_offset t (pos n) h m s =
    rw (
      digit (t.hour / 10) (omega arith),
      digit (t.hour % 10) (omega arith),
      digit (t.minute / 10) (omega arith),
      digit (t.minute % 10) (omega arith),
      digit (t.second / 10) (omega arith),
      digit (t.second % 10) (omega arith),
    ) refl
before_offset t (negsuc n) h m s =
    rw (
      digit (t.hour / 10) (omega arith),
      digit (t.hour % 10) (omega arith),
      digit (t.minute / 10) (omega arith),
      digit (t.minute % 10) (omega arith),
      digit (t.second / 10) (omega arith),
      digit (t.second % 10) (omega arith),
    ) refl

time_read : (t : Clock) (z : ℤ) → t.hour < 100 → t.minute < 100 → t.second < 100 → t.nanosecond ≡ 0 → unsigned_abs z < 360_000
    → unsigned_abs z % 60 ≡ 0 → time_in_one (clock_stamp t ++ offset_stamp z) ≡ Some (t, z)
time_read t z h m s none hours minutes =
    rw (before_offset t z h m s, clock_read t h m s none, offset_read z hours minutes) refl

-- the bytes of a stamp are neither whitespace nor commas
abbrev IsStampByte : ℕ → Type 0
IsStampByte b = (43 ≤ b) × (b ≤ 84) × (b ≢ 44)

two_bytes : (n : ℕ) → n < 100 → All IsStampByte (printed.two_digits n)
two_bytes n h =
    let one : (k : ℕ) → k < 10 → IsStampByte (48 + k) = λ k small. (omega arith, omega arith, λ e. omega arith) in
    All-cons IsStampByte (48 + n / 10) ((48 + n % 10) ∷ []) (one (n / 10) (omega arith))
    (All-cons IsStampByte (48 + n % 10) [] (one (n % 10) (omega arith)) (All-nil IsStampByte))

after : (b : ℕ) (bs : List ℕ) → IsStampByte b → All IsStampByte bs → All IsStampByte (b ∷ bs)
after b bs is all = All-cons IsStampByte b bs is all

two_before : (n : ℕ) (rest : List ℕ) → n < 100 → All IsStampByte rest → All IsStampByte (printed.two_digits n ++ rest)
two_before n rest h all = All-append IsStampByte (printed.two_digits n) rest (two_bytes n h) all

mark : (b : ℕ) → 45 ≤ b → b ≤ 84 → IsStampByte b
mark b low high = (omega arith, high, λ e. omega arith)

hours_bytes : (h m : ℕ) → h < 100 → m < 100 → All IsStampByte (printed.two_digits h ++ (58 ∷ printed.two_digits m))
hours_bytes h m small low =
    two_before h (58 ∷ printed.two_digits m) small
    (after 58 (printed.two_digits m) (mark 58 (omega arith) (omega arith)) (two_bytes m low))

offset_bytes : (z : ℤ) → unsigned_abs z < 360_000 → All IsStampByte (offset_stamp z)
offset_bytes (pos n) h =
    after 43 (printed.two_digits (n / 3600) ++ (58 ∷ printed.two_digits (n / 60 % 60))) (omega arith, omega arith, λ e. omega arith)
    (hours_bytes (n / 3600) (n / 60 % 60) (omega arith) (omega arith))
offset_bytes (negsuc n) h =
    after 45 (printed.two_digits (suc n / 3600) ++ (58 ∷ printed.two_digits (suc n / 60 % 60))) (mark 45 (omega arith) (omega arith))
    (hours_bytes (suc n / 3600) (suc n / 60 % 60) (omega arith) (omega arith))

clock_bytes : (t : Clock) (rest : List ℕ) → t.hour < 100 → t.minute < 100 → t.second < 100 → All IsStampByte rest
    → All IsStampByte (clock_stamp t ++ rest)
clock_bytes t rest h m s all =
    let seconds = printed.two_digits t.second ++ rest in
    let minutes = printed.two_digits t.minute ++ (58 ∷ seconds) in
    two_before t.hour (58 ∷ minutes) h
    (after 58 minutes (mark 58 (omega arith) (omega arith))
    (two_before t.minute (58 ∷ seconds) m
    (after 58 seconds (mark 58 (omega arith) (omega arith)) (two_before t.second rest s all))))

day_bytes : (d : Day) (rest : List ℕ) → d.year < 10000 → d.month < 100 → d.day < 100 → All IsStampByte rest
    → All IsStampByte (day_stamp d ++ rest)
day_bytes d rest y m n all =
    let days = printed.two_digits d.day ++ rest in
    let months = printed.two_digits d.month ++ (45 ∷ days) in
    two_before (d.year / 100) (printed.two_digits (d.year % 100) ++ (45 ∷ months)) (omega arith)
    (two_before (d.year % 100) (45 ∷ months) (omega arith)
    (after 45 months (mark 45 (omega arith) (omega arith))
    (two_before d.month (45 ∷ days) m
    (after 45 days (mark 45 (omega arith) (omega arith)) (two_before d.day rest n all)))))

stamp_bytes : (f : Fields) → FitsStamp f → All IsStampByte (stamp f)
stamp_bytes f h =
    let time = clock_stamp f.clock ++ offset_stamp f.offset in
    day_bytes f.day (84 ∷ time) h.year h.month h.day
    (after 84 time (mark 84 (omega arith) (omega arith))
    (clock_bytes f.clock (offset_stamp f.offset) h.hour h.minute h.second (offset_bytes f.offset h.hours)))

-- so a stamp is one word
no_comma : (bs : List ℕ) → All IsStampByte bs → map (swap 44 32) bs ≡ bs
no_comma [] all = refl
no_comma (b ∷ bs) all =
    let is = All-head IsStampByte b bs all in
    rw (ne_eqb b 44 is.2, no_comma bs (All-tail IsStampByte b bs all)) refl

no_space : (b : ℕ) → IsStampByte b → is_whitespace b ≡ false
no_space b is = let low = is.0 in let high = is.1 in grind (arith, nat_tests)

one_word : (bs : List ℕ) → 0 < length bs → All IsStampByte bs → moment_words bs ≡ bs ∷ []
one_word bs some all =
    let ascii : IsAscii bs = IsAscii-from_all bs (All-weaker IsStampByte (λ b. b < 128) (λ b is. let high = is.1 in omega arith) bs all) in
    let same : chars bs ≡ bs = chars-IsAscii bs ascii in
    ap words (swapped 44 32 bs ∙ no_comma bs all)
    ∙ is_one_word bs (IsUtf8-from_ascii bs ascii) some (rw same (All-weaker IsStampByte (λ b. is_whitespace b ≡ false) no_space bs all))

no_weekday : (f : Fields) → without_weekday (stamp f ∷ []) ≡ stamp f ∷ []
unfolding weekday_name
no_weekday f = refl

pub stamps_are_read : (f : Fields) → FitsStamp f → fields_of (stamp f) ≡ Some f
stamps_are_read f h =
    ap (λ ws. fields_in (without_weekday ws)) (one_word (stamp f) (omega arith) (stamp_bytes f h)) ∙ ap fields_in (no_weekday f)
    ∙ rw (
      day_read f.day h.year h.month h.day,
      time_read f.clock f.offset h.hour h.minute h.second h.nanosecond h.hours h.minutes,
    ) refl
