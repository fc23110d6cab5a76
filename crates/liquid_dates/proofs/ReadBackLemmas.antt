-- What is printed is read back.
use Rattle.std.proofs.Common.{
  ◌≡◌,
  ◌≢◌,
  ◌⊎◌,
  inl,
  inr,
  ℕ,
  suc,
  ◌+◌,
  ◌-◌,
  ◌*◌,
  ◌/◌,
  ◌%◌,
  ◌<◌,
  ◌≤◌,
  List,
  [],
  ◌∷◌,
  ◌++◌,
  refl,
  sym,
  ap,
  subst,
  ◌∙◌,
  arith,
  get_or,
  ℤ,
  pos,
  negsuc,
  neg_ℤ,
  unsigned_abs,
  Bool,
  true,
  false,
  cond,
  ◌&&◌,
  ◌||◌,
  eqb,
  length,
  length-append,
  fold,
  zero,
  ◌^◌,
  mul_assoc,
  nat_lt,
  pow-add,
  append_assoc,
  Some,
}
use Rattle.std.specs.List.{list_all}
use Rattle.std.specs.Str.Parse.{AllDigits, IsNumeral, without_leading_sign}
use Rattle.std.specs.Str.{chars, trim, trim_start, trim_end, drop_trailing_whitespace}
use Rattle.std.specs.Char.{is_whitespace, to_ascii_lowercase}
use Rattle.std.proofs.lemmas.Str.{encode_ascii}
use Rattle.std.proofs.Math.Seq.{drop-append_seam}
use Rattle.std.proofs.Math.Nat.{pow-suc, add-mul, one-le-pow}
use Rattle.std.proofs.lemmas.Bool.Decides.{nat_tests}
use Rattle.jiff_core.specs.declared.civil.time.Time.{Time as CivilTime}
use Rattle.std.specs.Prelude.{encode_utf8_all, map}
use Rattle.jiff_core.specs.declared.civil.date.Date.{Date as CivilDate}
use Rattle.jiff_core.specs.Calendar.{IsYear}
use Rattle.jiff_core.proofs.SignedLemmas.{signed_arith}
use Rattle.jiff_core.proofs.CalendarLemmas.{days_in_month_bounds}
use Rattle.liquid_dates.specs.declared.date_time.DateTime.{DateTime}
use Rattle.liquid_dates.specs.meaning.Names.{month_name, short_month_name}
use Rattle.liquid_dates.specs.meaning.Flags.{is_digit, digits_number}
use Rattle.liquid_dates.specs.meaning.Printed.{
  two_digits,
  four_digits,
  year_text,
  date_text,
  clock_text,
  fraction_digits,
  fraction_text,
  sign_of,
  offset_text,
  date_time_text,
}
use Rattle.liquid_dates.specs.meaning.Instant.{civil_date, civil_time, offset_seconds, nanosecond}
use Rattle.liquid_dates.specs.meaning.DateText.{
  iso_date,
  long_date,
  short_date,
  iso_date_time,
  fraction_date_time,
  date_time_forms,
  is_offset_end,
  ends_in_offset,
  IsNow,
  IsDateText,
  IsDateTimeText,
}
use Rattle.liquid_dates.proofs.PairForms.{year_form, dashed, day_month, clock, offset_form, fraction_form, timed_dashed}
use Rattle.liquid_dates.specs.steps.DateReader.{read_iso_stamp, offset_end}
use Rattle.liquid_dates.proofs.DateTextLemmas.{some_pair}
use Rattle.liquid_dates.proofs.TimedLemmas.{stamped_whole, timed_dashed_reads}

-- a printed year is a year's form
pub year_printed : (y : ℤ) → IsYear y → year_form (year_text y) y
unfolding year_text
year_printed (pos n) h = (n, omega (arith, signed_arith), inl (refl, refl))
year_printed (negsuc n) h = (suc n, omega (arith, signed_arith), inr (refl, refl))

pub dashed_printed : (d : CivilDate) → dashed (date_text d) (d.year, (d.month, d.day))
unfolding date_text
dashed_printed d =
    let month : d.month < 100 = omega (arith, d.month_in) in
    let day : d.day < 100 = omega (arith, d.day_in, days_in_month_bounds d.year d.month) in (
      year_text d.year,
      two_digits d.month ++ (45 ∷ two_digits d.day),
      refl,
      year_printed d.year d.year_in,
      (two_digits d.month, two_digits d.day, refl, (month, refl), (day, refl)),
    )

-- if a form writes a day first, the third character is a space, and the first a digit
day_first : (name : ℕ → List ℕ) (text : List ℕ) (v : ℕ × (ℕ × ℤ)) → day_month name text v → (get_or text 2 0 ≡ 32) × (48 ≤ get_or text 0 0)
day_first name text v (front, back, is, (small, two), more) =
    let e : text ≡ two_digits v.0 ++ (32 ∷ back) = is ∙ ap (λ t. t ++ (32 ∷ back)) two in
    let first : get_or text 0 0 ≡ 48 + v.0 / 10 = ap (λ t. get_or t 0 0) e in
    (ap (λ t. get_or t 2 0) e, omega arith)

printed_no_day : (y : ℤ) (rest : List ℕ) → get_or (year_text y ++ rest) 2 0 ≡ 32 → 48 ≤ get_or (year_text y ++ rest) 0 0 → ⊥
unfolding year_text
printed_no_day (pos n) rest h k = omega arith
printed_no_day (negsuc n) rest h k = omega arith

printed_no_word : (y : ℤ) (rest : List ℕ) → IsYear y → get_or (year_text y ++ rest) 0 0 ≡ 116 → ⊥
unfolding year_text
printed_no_word (pos n) rest y h = omega (arith, signed_arith)
printed_no_word (negsuc n) rest y h = omega arith

-- a printed date is read back as itself
pub date_read_back : (d : CivilDate) (moment : DateTime) → IsDateText (date_text d) moment d
unfolding date_text iso_date long_date short_date
date_read_back d moment =
    let following = 45 ∷ (two_digits d.month ++ (45 ∷ two_digits d.day)) in
    let no_day : (name : ℕ → List ℕ) (v : ℕ × (ℕ × ℤ)) → day_month name (date_text d) v → ⊥ = λ name v f. let s =
    day_first name (date_text d) v f in printed_no_day d.year following s.0 s.1 in (
    inr (
      λ today. printed_no_word d.year following d.year_in (ap (λ (t : List ℕ). get_or t 0 0) today),
      inr (
        λ b f. no_day month_name (b.day, (b.month, b.year)) f,
        inr (λ b f. no_day short_month_name (b.day, (b.month, b.year)) f, dashed_printed d),
      ),
    )
    )

-- a clock and an offset that are printed
clock_printed : (t : CivilTime) → clock (clock_text t) (t.hour, (t.minute, t.second))
unfolding clock_text
clock_printed t = (
  two_digits t.hour,
  two_digits t.minute ++ (58 ∷ two_digits t.second),
  refl,
  (t.hour_in, refl),
  (two_digits t.minute, two_digits t.second, refl, (t.minute_in, refl), (t.second_in, refl)),
)

offset_printed : (z : ℤ) → unsigned_abs z < 72_000 → unsigned_abs z % 60 ≡ 0 → offset_form (offset_text z) z
unfolding offset_text
offset_printed (pos n) small whole =
    let value : n ≡ n / 3600 * 3600 + n / 60 % 60 * 60 = omega arith in
    (n / 3600, n / 60 % 60, omega arith, omega arith, inl (refl, ap pos value))
offset_printed (negsuc n) small whole =
    let value : suc n ≡ suc n / 3600 * 3600 + suc n / 60 % 60 * 60 = omega arith in
    (suc n / 3600, suc n / 60 % 60, omega arith, omega arith, inr (refl, ap (λ m. neg_ℤ (pos m)) value))

-- the text ends in its offset
offset_ends : (s h m : ℕ) → (s ≡ 43) ⊎ (s ≡ 45) → h < 20 → m < 60 → is_offset_end (s ∷ (two_digits h ++ two_digits m)) ≡ true
offset_ends s h m (inl e) small sixty = rw e (ends_test h m small sixty)
  where
    ends_test : (h m : ℕ) → h < 20 → m < 60 →
        ((eqb (48 + h / 10) 48 || eqb (48 + h / 10) 49) &&
        (is_digit (48 + h % 10) && (is_digit (48 + m / 10) && is_digit (48 + m % 10)))) ≡ true
    ends_test h m small sixty = grind (arith, nat_tests)
offset_ends s h m (inr e) small sixty = rw e (ends_test h m small sixty)
  where
    ends_test : (h m : ℕ) → h < 20 → m < 60 →
        ((eqb (48 + h / 10) 48 || eqb (48 + h / 10) 49) &&
        (is_digit (48 + h % 10) && (is_digit (48 + m / 10) && is_digit (48 + m % 10)))) ≡ true
    ends_test h m small sixty = grind (arith, nat_tests)

sign_is : (z : ℤ) → (sign_of z ≡ 43) ⊎ (sign_of z ≡ 45)
sign_is (pos n) = inl refl
sign_is (negsuc n) = inr refl

given_printed : (front : List ℕ) (z : ℤ) → unsigned_abs z < 72_000 → ends_in_offset (front ++ offset_text z) ≡ true
unfolding offset_text
given_printed front z small =
    let h = unsigned_abs z / 3600 in
    let m = unsigned_abs z / 60 % 60 in
    let end = sign_of z ∷ (two_digits h ++ two_digits m) in
    let long : length (front ++ end) - 5 ≡ length front = omega (arith, length-append front end) in
    rw (long, drop-append_seam front end) (offset_ends (sign_of z) h m (sign_is z) (omega arith) (omega arith))

-- the digits of a fraction that is printed
fold_digits : (v : ℕ) (ds : List ℕ) → fold (λ n c. n * 10 + (c - 48)) v ds ≡ v * 10 ^ length ds + fold (λ n c. n * 10 + (c - 48)) 0 ds
fold_digits v [] = omega arith
fold_digits v (d ∷ ds) =
    let a = fold_digits (v * 10 + (d - 48)) ds in
    let b = fold_digits (0 * 10 + (d - 48)) ds in
    let p : 10 ^ suc (length ds) ≡ 10 * 10 ^ length ds = omega (arith, pow-suc 10 (length ds)) in
    a ∙ rw (b, p) (grind arith)

record IsFraction (k n : ℕ) (ds : List ℕ) : Type 0 where
  passes : list_all is_digit ds ≡ true
  some : 1 ≤ length ds
  short : length ds ≤ k
  value : n ≡ fold (λ n c. n * 10 + (c - 48)) 0 ds * 10 ^ (k - length ds)

fraction_more : (k n q r : ℕ) (ds : List ℕ) → q < 10 → n ≡ q * 10 ^ k + r → IsFraction k r ds → IsFraction (suc k) n ((48 + q) ∷ ds)
fraction_more k n q r ds small e more =
    let digit : is_digit (48 + q) ≡ true = grind (arith, nat_tests) in
    let q0 : 0 * 10 + (48 + q - 48) ≡ q = omega arith in
    let left : suc k - suc (length ds) ≡ k - length ds = omega arith in
    let whole : 10 ^ k ≡ 10 ^ length ds * 10 ^ (k - length ds) = ap (λ i. 10 ^ i) (omega (arith, more.short))
    ∙ pow-add 10 (length ds) (k - length ds) in
    record {
      passes = rw digit more.passes;
      some = omega arith;
      short = omega (arith, more.short);
      value = e ∙ rw (q0, left, fold_digits q ds)
          (sum_of q (10 ^ length ds) (10 ^ (k - length ds)) (fold (λ n c. n * 10 + (c - 48)) 0 ds) r (10 ^ k) whole more.value);
    }
  where
    sum_of : (q a b v r p : ℕ) → p ≡ a * b → r ≡ v * b → q * p + r ≡ (q * a + v) * b
    sum_of q a b v r p e f = rw (e, f, add-mul (q * a) v b, mul_assoc q a b) refl

fraction_test : (k n q r p : ℕ) (t : Bool) → eqb r 0 ≡ t → p ≡ 10 ^ k → n ≡ q * p + r → q < 10
    → (0 < r → IsFraction k r (fraction_digits k r)) → IsFraction (suc k) n ((48 + q) ∷ cond t [] (fraction_digits k r))
fraction_test k n q r p false t e value small more =
    let some : 0 < r = grind (arith, nat_tests) in
    fraction_more k n q r (fraction_digits k r) small (value ∙ rw e refl) (more some)
fraction_test k n q r p true t e value small more =
    let none : r ≡ 0 = grind (arith, nat_tests) in
    let digit : is_digit (48 + q) ≡ true = grind (arith, nat_tests) in
    let q0 : 0 * 10 + (48 + q - 48) ≡ q = omega arith in
    let left : suc k - 1 ≡ k = omega arith in
    record { passes = rw digit refl; some = omega arith; short = omega arith; value = value ∙ rw (q0, left, none, e) (omega arith) }

quotient : (k n p : ℕ) → p ≡ 10 ^ k → 0 < p → n < 10 ^ suc k → (n / p < 10) × (n ≡ n / p * p + n % p) × (n % p < p)
quotient k n p e some small =
    let top : 10 ^ suc k ≡ 10 * p = omega (arith, pow-suc 10 k) in
    (grind arith, grind arith, omega arith)

fraction_printed_at : (k n : ℕ) → 0 < n → n < 10 ^ k → IsFraction k n (fraction_digits k n)
unfolding fraction_digits
fraction_printed_at zero n some small = absurd (omega arith)
fraction_printed_at (suc k) n some small =
    let positive : 0 < 10 ^ k = one-le-pow k 10 (omega arith) in
    let q = quotient k n (10 ^ k) refl positive small in
    fraction_test k n (n / 10 ^ k) (n % 10 ^ k) (10 ^ k) _ refl refl q.1 q.0 (λ r. fraction_printed_at k (n % 10 ^ k) r q.2)

-- a text that begins with a digit or `-` is not `now`
chars_first : (c : ℕ) (cs : List ℕ) → c < 128 → (more : List ℕ) × (chars (c ∷ cs) ≡ c ∷ more)
unfolding chars
chars_first c [] h = let t : nat_lt c 128 ≡ true = grind (arith, nat_tests) in ([], rw t refl)
chars_first c (d ∷ ds) h = let t : nat_lt c 128 ≡ true = grind (arith, nat_tests) in (chars (d ∷ ds), rw t refl)

encodes_first : (c : ℕ) (cs : List ℕ) → c < 128 → encode_utf8_all (c ∷ cs) ≡ c ∷ encode_utf8_all cs
encodes_first c cs h = rw (encode_ascii c h) refl

trim_start_first : (c : ℕ) (cs : List ℕ) → c < 128 → is_whitespace c ≡ false → (more : List ℕ) × (trim_start (c ∷ cs) ≡ c ∷ more)
unfolding trim_start
trim_start_first c cs h space =
    let (more, e) = chars_first c cs h in (encode_utf8_all more, rw (e, space) (encodes_first c more h))

trim_end_first : (c : ℕ) (cs : List ℕ) → c < 128 → is_whitespace c ≡ false → (more : List ℕ) × (trim_end (c ∷ cs) ≡ c ∷ more)
unfolding trim_end
trim_end_first c cs h space =
    let (more, e) = chars_first c cs h in
    (encode_utf8_all (drop_trailing_whitespace more), rw (e, space) (encodes_first c (drop_trailing_whitespace more) h))

trim_first : (c : ℕ) (cs : List ℕ) → c < 128 → is_whitespace c ≡ false → (more : List ℕ) × (trim (c ∷ cs) ≡ c ∷ more)
trim_first c cs h space =
    let (a, e) = trim_start_first c cs h space in
    let (b, f) = trim_end_first c a h space in
    (b, ap trim_end e ∙ f)

not_now_first : (c : ℕ) (cs : List ℕ) → 45 ≤ c → c ≤ 57 → ¬ (IsNow (c ∷ cs))
not_now_first c cs low high now =
    let space : is_whitespace c ≡ false = grind (arith, nat_tests) in
    let (more, e) = trim_first c cs (omega arith) space in
    let lower : to_ascii_lowercase c ≡ c = grind (arith, nat_tests) in
    elim now [
      | inl n ↦ apart c 110 (omega arith) (sym lower ∙ ap (λ (t : List ℕ). get_or t 0 0) (sym (ap (map to_ascii_lowercase) e) ∙ n))
      | inr t ↦ apart c 116 (omega arith) (sym lower ∙ ap (λ (t : List ℕ). get_or t 0 0) (sym (ap (map to_ascii_lowercase) e) ∙ t))
    ]
  where
    apart : (c w : ℕ) → (c < w) → c ≡ w → ⊥
    apart c w h e = omega arith

-- nor an integer: a `-` is after the year
four_no_number : (a b c d : ℕ) (rest : List ℕ) → ¬ (AllDigits 10 (a ∷ b ∷ c ∷ d ∷ 45 ∷ rest))
four_no_number a b c d rest h = omega (arith, h.1.1.1.1.0)

signless : (a : ℕ) (rest : List ℕ) → 48 ≤ a → without_leading_sign (a ∷ rest) ≡ a ∷ rest
signless a rest low =
    let minus : eqb a 45 ≡ false = grind (arith, nat_tests) in
    let plus : eqb a 43 ≡ false = grind (arith, nat_tests) in
    rw (minus, plus) refl

year_no_number : (y : ℤ) (rest : List ℕ) → ¬ (IsNumeral 10 (without_leading_sign (year_text y ++ (45 ∷ rest))))
unfolding year_text
year_no_number (pos n) rest h =
    let a = 48 + n / 100 / 10 in
    let more = (48 + n / 100 % 10) ∷ (48 + n % 100 / 10) ∷ (48 + n % 100 % 10) ∷ 45 ∷ rest in
    let low : 48 ≤ a = omega arith in
    let plain : IsNumeral 10 (a ∷ more) = subst (λ t. IsNumeral 10 t) (signless a more low) h in
    four_no_number a (48 + n / 100 % 10) (48 + n % 100 / 10) (48 + n % 100 % 10) rest plain.1
year_no_number (negsuc n) rest h =
    four_no_number (48 + suc n / 100 / 10) (48 + suc n / 100 % 10) (48 + suc n % 100 / 10) (48 + suc n % 100 % 10) rest h.1

year_not_now : (y : ℤ) (rest : List ℕ) → IsYear y → ¬ (IsNow (year_text y ++ rest))
unfolding year_text
year_not_now (pos n) rest h =
    not_now_first (48 + n / 100 / 10) ((48 + n / 100 % 10) ∷ (two_digits (n % 100) ++ rest)) (omega arith) (omega (arith, signed_arith))
year_not_now (negsuc n) rest h = not_now_first 45 (four_digits (suc n) ++ rest) (omega arith) (omega arith)

year_some : (y : ℤ) (rest : List ℕ) → year_text y ++ rest ≢ []
unfolding year_text
year_some (pos n) rest e = cc
year_some (negsuc n) rest e = cc

-- the date and the time of a text are those of the dashed form
stamp_printed : (d : CivilDate) (t : CivilTime) → timed_dashed (date_text d ++ (32 ∷ clock_text t))
    ((d.year, (d.month, d.day)), (t.hour, (t.minute, t.second)))
stamp_printed d t = (date_text d, clock_text t, refl, dashed_printed d, clock_printed t)

-- whole seconds are in the dashed form
no_fraction : (nano : ℕ) → nano ≡ 0 → fraction_text nano ≡ []
unfolding fraction_text
no_fraction nano e = rw e refl

seconds_printed : (dt : DateTime) → unsigned_abs (offset_seconds dt) < 72_000 → unsigned_abs (offset_seconds dt) % 60 ≡ 0
    → nanosecond dt ≡ 0 → iso_date_time (date_time_text dt) dt
unfolding iso_date_time
seconds_printed dt small whole none =
    let d = date_text (civil_date dt) in
    let c = clock_text (civil_time dt) in
    let o = 32 ∷ offset_text (offset_seconds dt) in
    let all : d ++ (32 ∷ (c ++ o)) ≡ (d ++ (32 ∷ c)) ++ o = sym (append_assoc d (32 ∷ c) o) in
    let text : date_time_text dt ≡ (d ++ (32 ∷ c)) ++ o = ap (λ t. d ++ (32 ∷ (c ++ (t ++ o)))) (no_fraction (nanosecond dt) none)
    ∙ all in (
      (
        d ++ (32 ∷ c),
        offset_text (offset_seconds dt),
        text,
        stamp_printed (civil_date dt) (civil_time dt),
        offset_printed (offset_seconds dt) small whole,
      ),
      none,
    )

-- other times have the form with a fraction, and not the dashed form
fraction_is : (nano : ℕ) (ds : List ℕ) → IsFraction 9 nano ds → fraction_form ds nano
unfolding digits_number
fraction_is nano ds f = (f.passes, (f.some, f.short), f.value)

fraction_text_some : (nano : ℕ) (t : Bool) → eqb nano 0 ≡ t → 0 < nano → fraction_text nano ≡ 46 ∷ fraction_digits 9 nano
unfolding fraction_text
fraction_text_some nano false t some = rw t refl
fraction_text_some nano true t some = absurd (grind (arith, nat_tests))

with_fraction : (dt : DateTime) → 0 < nanosecond dt
    → date_time_text dt ≡ (date_text (civil_date dt) ++ (32 ∷ clock_text (civil_time dt)))
    ++ (46 ∷ (fraction_digits 9 (nanosecond dt) ++ (32 ∷ offset_text (offset_seconds dt))))
with_fraction dt some =
    let d = date_text (civil_date dt) in
    let c = clock_text (civil_time dt) in
    let f = fraction_digits 9 (nanosecond dt) in
    let o = 32 ∷ offset_text (offset_seconds dt) in
    let all : d ++ (32 ∷ (c ++ (46 ∷ (f ++ o)))) ≡ (d ++ (32 ∷ c)) ++ (46 ∷ (f ++ o)) = sym (append_assoc d (32 ∷ c) (46 ∷ (f ++ o))) in
    ap (λ t. d ++ (32 ∷ (c ++ (t ++ o)))) (fraction_text_some (nanosecond dt) _ refl some) ∙ all

fraction_printed : (dt : DateTime) → unsigned_abs (offset_seconds dt) < 72_000 → unsigned_abs (offset_seconds dt) % 60 ≡ 0
    → 0 < nanosecond dt → fraction_date_time (date_time_text dt) dt
unfolding fraction_date_time
fraction_printed dt small whole some =
    let d = date_text (civil_date dt) in
    let c = clock_text (civil_time dt) in
    let f = fraction_digits 9 (nanosecond dt) in
    let o = 32 ∷ offset_text (offset_seconds dt) in
    let digits = fraction_printed_at 9 (nanosecond dt) some dt.local.time.subsec_in in
    let inner : c ++ (46 ∷ (f ++ o)) ≡ (c ++ (46 ∷ f)) ++ o = sym (append_assoc c (46 ∷ f) o) in
    let outer : d ++ (32 ∷ ((c ++ (46 ∷ f)) ++ o)) ≡ (d ++ (32 ∷ (c ++ (46 ∷ f)))) ++ o = sym (append_assoc d (32 ∷ (c ++ (46 ∷ f))) o) in
    let text : date_time_text dt ≡ (d ++ (32 ∷ (c ++ (46 ∷ f)))) ++ o = ap (λ t. d ++ (32 ∷ (c ++ (t ++ o))))
    (fraction_text_some (nanosecond dt) _ refl some) ∙ ap (λ t. d ++ (32 ∷ t)) inner ∙ outer in (
      d ++ (32 ∷ (c ++ (46 ∷ f))),
      offset_text (offset_seconds dt),
      text,
      (
        d,
        c ++ (46 ∷ f),
        refl,
        dashed_printed (civil_date dt),
        (c, f, refl, clock_printed (civil_time dt), fraction_is (nanosecond dt) f digits),
      ),
      offset_printed (offset_seconds dt) small whole,
    )

not_dashed : (dt b : DateTime) → 0 < nanosecond dt → ¬ (iso_date_time (date_time_text dt) b)
unfolding iso_date_time
not_dashed dt b some (form, none) =
    let s = stamped_whole timed_dashed read_iso_stamp timed_dashed_reads true (date_time_text dt) (
      ((civil_date b).year, ((civil_date b).month, (civil_date b).day)),
      ((civil_time b).hour, ((civil_time b).minute, (civil_time b).second)),
    ) (offset_seconds b) form in
    let d = civil_date dt in
    let t = civil_time dt in
    let following = 46 ∷ (fraction_digits 9 (nanosecond dt) ++ (32 ∷ offset_text (offset_seconds dt))) in
    let v : (ℤ × (ℕ × ℕ)) × (ℕ × (ℕ × ℕ)) = ((d.year, (d.month, d.day)), (t.hour, (t.minute, t.second))) in
    let read : read_iso_stamp (date_time_text dt) ≡ Some (v, following) = ap read_iso_stamp (with_fraction dt some)
    ∙ timed_dashed_reads.complete (date_text d ++ (32 ∷ clock_text t)) v following (stamp_printed d t) refl in
    let same = some_pair _ _ _ _ _ _ read s.read refl in
    no_offset (fraction_digits 9 (nanosecond dt) ++ (32 ∷ offset_text (offset_seconds dt))) _ (ap (offset_end true) same.1 ∙ s.ends)
  where
    no_offset : (more : List ℕ) (z : ℤ) → offset_end true (46 ∷ more) ≡ Some z → ⊥
    no_offset more z e = cc

-- a printed date time is read back as itself
forms_printed : (dt : DateTime) (t : Bool) → eqb (nanosecond dt) 0 ≡ t → unsigned_abs (offset_seconds dt) < 72_000
    → unsigned_abs (offset_seconds dt) % 60 ≡ 0 → date_time_forms (date_time_text dt) dt
forms_printed dt true t small whole = inl (seconds_printed dt small whole (grind (arith, nat_tests)))
forms_printed dt false t small whole =
    let some : 0 < nanosecond dt = grind (arith, nat_tests) in
    inr ((λ b. not_dashed dt b some), inl (fraction_printed dt small whole some))

text_ends : (dt : DateTime) → (front : List ℕ) × (date_time_text dt ≡ front ++ offset_text (offset_seconds dt))
text_ends dt =
    let d = date_text (civil_date dt) in
    let c = clock_text (civil_time dt) in
    let f = fraction_text (nanosecond dt) in
    let o = offset_text (offset_seconds dt) in
    let inner : f ++ (32 ∷ o) ≡ (f ++ (32 ∷ [])) ++ o = sym (append_assoc f (32 ∷ []) o) in
    let middle : c ++ ((f ++ (32 ∷ [])) ++ o) ≡ (c ++ (f ++ (32 ∷ []))) ++ o = sym (append_assoc c (f ++ (32 ∷ [])) o) in
    let outer : d ++ (32 ∷ ((c ++ (f ++ (32 ∷ []))) ++ o)) ≡ (d ++ (32 ∷ (c ++ (f ++ (32 ∷ []))))) ++ o =
    sym (append_assoc d (32 ∷ (c ++ (f ++ (32 ∷ [])))) o) in
    (d ++ (32 ∷ (c ++ (f ++ (32 ∷ [])))), ap (λ t. d ++ (32 ∷ (c ++ t))) inner ∙ ap (λ t. d ++ (32 ∷ t)) middle ∙ outer)

-- the text is its year, `-` and more
text_begins : (dt : DateTime) → (more : List ℕ) × (date_time_text dt ≡ year_text (civil_date dt).year ++ (45 ∷ more))
unfolding date_text
text_begins dt =
    let d = civil_date dt in
    let following = 45 ∷ (two_digits d.month ++ (45 ∷ two_digits d.day)) in
    let more = 32 ∷ (clock_text (civil_time dt) ++ (fraction_text (nanosecond dt) ++ (32 ∷ offset_text (offset_seconds dt)))) in
    (two_digits d.month ++ (45 ∷ (two_digits d.day ++ more)), append_assoc (year_text d.year) following more)

read_as : (text more : List ℕ) (moment dt : DateTime) → text ≡ year_text (civil_date dt).year ++ (45 ∷ more) → ends_in_offset text ≡ true
    → date_time_forms text dt → IsDateTimeText text moment dt
read_as text more moment dt e given forms =
    let y = (civil_date dt).year in (
      rw e (year_some y (45 ∷ more)),
      inr (
        rw e (year_not_now y (45 ∷ more) (civil_date dt).year_in),
        inr (λ z number. year_no_number y more (rw (← e) number.0), rw given forms),
      ),
    )

pub date_time_read_back : (dt moment : DateTime) → unsigned_abs (offset_seconds dt) < 72_000 → unsigned_abs (offset_seconds dt) % 60 ≡ 0
    → IsDateTimeText (date_time_text dt) moment dt
date_time_read_back dt moment small whole =
    let (front, end) = text_ends dt in
    let (more, start) = text_begins dt in
    let given : ends_in_offset (date_time_text dt) ≡ true = rw end (given_printed front (offset_seconds dt) small) in
    read_as (date_time_text dt) more moment dt start given (forms_printed dt _ refl small whole)
