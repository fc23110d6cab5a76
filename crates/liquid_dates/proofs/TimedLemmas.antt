-- The readers of date times read what the forms relate, and nothing else.
use Rattle.std.proofs.Common.{
  ◌≡◌,
  ◌⊎◌,
  inl,
  inr,
  ℕ,
  suc,
  ◌+◌,
  ◌-◌,
  ◌*◌,
  ◌/◌,
  ◌%◌,
  ◌^◌,
  ◌<◌,
  ◌≤◌,
  Bool,
  true,
  false,
  cond,
  ◌&&◌,
  List,
  [],
  ◌∷◌,
  ◌++◌,
  length,
  refl,
  sym,
  ap,
  ◌∙◌,
  arith,
  Option,
  Some,
  None,
  nat_lt,
  append_assoc,
  append-nil,
  ℤ,
  pos,
  neg_ℤ,
  unwrap_or,
  fold,
  length-append,
  get_or,
}
use Rattle.std.specs.Option.{option_and_then}
use Rattle.std.specs.Prelude.{codes}
use Rattle.std.specs.List.{list_all}
use Rattle.std.proofs.lemmas.Bool.Decides.{nat_tests}
use Rattle.liquid_dates.specs.meaning.Flags.{is_digit, digits_number}
use Rattle.liquid_dates.specs.meaning.Names.{month_name, short_month_name}
use Rattle.liquid_dates.specs.meaning.Printed.{two_digits}
use Rattle.liquid_dates.specs.meaning.Pattern.{begins}
use Rattle.liquid_dates.specs.meaning.DateText.{with_given_offset}
use Rattle.liquid_dates.proofs.PairForms.{
  joined,
  year_form,
  month_form,
  weekday_form,
  short_day,
  fraction_form,
  dashed,
  day_month,
  slashed,
  clock,
  offset_form,
  timed_dashed,
  timed_fraction,
  timed_day_month,
  timed_slashed,
  timed_weekday,
}
use Rattle.liquid_dates.specs.steps.DateReader.{
  Read,
  after_byte,
  read_two_digits,
  read_year,
  joined_at,
  whole_of,
  read_short_month,
  read_weekday,
  read_iso_date,
  read_long_date,
  read_short_date,
  read_us_date,
  read_clock,
  read_hours,
  sign_after,
  read_offset,
  or_one_digit,
  read_short_day,
  digits_from,
  read_fraction,
  read_iso_stamp,
  read_fraction_stamp,
  read_long_stamp,
  read_short_stamp,
  read_us_stamp,
  read_weekday_stamp,
  offset_end,
}
use Rattle.liquid_dates.proofs.DateTextLemmas.{
  Reads,
  some_pair,
  bind_some,
  map_some,
  after_byte_is,
  two_sound,
  two_at_digits,
  joined_reads,
  whole_sound,
  whole_complete,
  year_reads,
  weekday_reads,
  short_month_reads,
  dashed_reads,
  long_reads,
  short_reads,
  slashed_reads,
  clock_reads,
}

-- an offset
pub record IsHours (text : List ℕ) (n : ℕ) (rest : List ℕ) : Type 0 where
  pub h : ℕ
  pub m : ℕ
  pub hours : h < 100
  pub minutes : m < 60
  pub is : text ≡ (two_digits h ++ two_digits m) ++ rest
  pub value : n ≡ h * 3600 + m * 60

hours_sound : (text : List ℕ) (n : ℕ) (rest : List ℕ) → read_hours text ≡ Some (n, rest) → IsHours text n rest
unfolding read_hours
hours_sound text n rest e =
    let (x, ex, e1) = bind_some (read_two_digits 100 text) _ _ e in
    let (y, ey, e2) = bind_some (read_two_digits 60 x.1) _ _ e1 in
    let (s, is, f) = two_sound 100 text x.0 x.1 ex in
    let (u, is₂, g) = two_sound 60 x.1 y.0 y.1 ey in
    let pair = some_pair (x.0 * 3600 + y.0 * 60) n y.1 rest _ _ refl refl e2 in
    let all : text ≡ (s ++ u) ++ rest = is ∙ ap (λ t. s ++ t) (is₂ ∙ ap (λ t. u ++ t) pair.1) ∙ sym (append_assoc s u rest) in
    record {
      h = x.0;
      m = y.0;
      hours = f.0;
      minutes = g.0;
      is = all ∙ ap (λ t. (t ++ u) ++ rest) f.1
          ∙ ap (λ t. (two_digits x.0 ++ t) ++ rest) g.1;
      value = sym pair.0;
    }

hours_digits : (h m : ℕ) (rest : List ℕ) → h < 100 → m < 60 → read_hours ((two_digits h ++ two_digits m) ++ rest) ≡ Some
    (h * 3600 + m * 60, rest)
unfolding read_hours
hours_digits h m rest a b =
    rw (
      append_assoc (two_digits h) (two_digits m) rest,
      two_at_digits 100 h (two_digits m ++ rest) (omega arith) a,
      two_at_digits 60 m rest (omega arith) b,
    ) refl

offset_sound : (text : List ℕ) (plus minus : Option (List ℕ)) → after_byte 43 text ≡ plus → after_byte 45 text ≡ minus
    → (z : ℤ) (rest : List ℕ) → sign_after plus minus ≡ Some (z, rest) → (front : List ℕ) × (text ≡ front ++ rest) × offset_form front z
offset_sound text None None p q z rest e = cc
offset_sound text (Some following) minus p q z rest e =
    let (x, ex, e1) = map_some (read_hours following) _ _ e in
    let pair = some_pair (pos x.0) z x.1 rest (Some (pos x.0, x.1)) (Some (z, rest)) refl refl (ap Some e1) in
    let s = hours_sound following x.0 x.1 ex in
    let digits = two_digits s.h ++ two_digits s.m in (
      43 ∷ digits,
      after_byte_is 43 text following p ∙ ap (λ t. 43 ∷ t) (s.is ∙ ap (λ t. digits ++ t) pair.1),
      (s.h, s.m, s.hours, s.minutes, inl (refl, sym pair.0 ∙ ap pos s.value)),
    )
offset_sound text None (Some following) p q z rest e =
    let (x, ex, e1) = map_some (read_hours following) _ _ e in
    let pair = some_pair (neg_ℤ (pos x.0)) z x.1 rest (Some (neg_ℤ (pos x.0), x.1)) (Some (z, rest)) refl refl (ap Some e1) in
    let s = hours_sound following x.0 x.1 ex in
    let digits = two_digits s.h ++ two_digits s.m in (
      45 ∷ digits,
      after_byte_is 45 text following q ∙ ap (λ t. 45 ∷ t) (s.is ∙ ap (λ t. digits ++ t) pair.1),
      (s.h, s.m, s.hours, s.minutes, inr (refl, sym pair.0 ∙ ap (λ n. neg_ℤ (pos n)) s.value)),
    )

offset_complete : (front : List ℕ) (z : ℤ) (rest : List ℕ) (h m : ℕ) → h < 100 → m < 60
    → ((front ≡ 43 ∷ (two_digits h ++ two_digits m)) × (z ≡ pos (h * 3600 + m * 60))) ⊎
    ((front ≡ 45 ∷ (two_digits h ++ two_digits m)) × (z ≡ neg_ℤ (pos (h * 3600 + m * 60)))) → read_offset (front ++ rest) ≡ Some (z, rest)
unfolding read_offset
offset_complete front z rest h m a b (inl (is, value)) = rw (is, value, hours_digits h m rest a b) refl
offset_complete front z rest h m a b (inr (is, value)) = rw (is, value, hours_digits h m rest a b) refl

pub offset_reads : Reads offset_form read_offset
unfolding read_offset
offset_reads = record {
  sound = λ text z rest e. offset_sound text _ _ refl refl z rest e;
  complete = λ front z rest f ends. offset_complete front z rest f.0 f.1 f.2 f.3 f.4;
}

-- a day of one or two digits
one_digit_sound : (c n : ℕ) (cs rest : List ℕ) (t : Bool) → is_digit c ≡ t → cond {A = Read ℕ} t (Some (c - 48, cs)) None ≡ Some
    (n, rest) → (n < 10) × (c ∷ cs ≡ (48 + n) ∷ rest)
one_digit_sound c n cs rest false t e = cc
one_digit_sound c n cs rest true t e =
    let pair = some_pair (c - 48) n cs rest _ _ refl refl e in
    let digit : (48 ≤ c) × (c ≤ 57) = (grind (arith, nat_tests), grind (arith, nat_tests)) in
    let is : c ≡ 48 + n = omega (arith, pair.0) in
    (omega (arith, pair.0), rw (is, pair.1) refl)

short_day_sound : (text : List ℕ) (o : Read ℕ) → read_two_digits 100 text ≡ o → (n : ℕ) (rest : List ℕ)
    → or_one_digit o text ≡ Some (n, rest)
    → (front : List ℕ) × (text ≡ front ++ rest) × short_day front n
short_day_sound text (Some x) t n rest e =
    let (s, is, f) = two_sound 100 text n rest (t ∙ e) in (s, is, inr f)
short_day_sound [] None t n rest e = cc
short_day_sound (c ∷ cs) None t n rest e =
    let s = one_digit_sound c n cs rest _ refl e in ((48 + n) ∷ [], s.1, inl (s.0, refl))

one_digit_alone : (n : ℕ) (rest : List ℕ) → begins is_digit rest ≡ false → read_two_digits 100 ((48 + n) ∷ rest) ≡ None
unfolding read_two_digits
one_digit_alone n [] ends = refl
one_digit_alone n (c ∷ cs) ends =
    let test : (is_digit (48 + n) && (is_digit c && nat_lt (10 * (48 + n - 48) + (c - 48)) 100)) ≡ false =
    rw ends (and_false (is_digit (48 + n))) in
    rw test refl
  where
    and_false : (b : Bool) → (b && false) ≡ false
    and_false true = refl
    and_false false = refl

short_day_complete : (front : List ℕ) (n : ℕ) (rest : List ℕ) → short_day front n → begins is_digit rest ≡ false
    → read_short_day (front ++ rest) ≡ Some (n, rest)
unfolding read_short_day
short_day_complete front n rest (inl (small, is)) ends =
    let digit : is_digit (48 + n) ≡ true = grind (arith, nat_tests) in
    let value : 48 + n - 48 ≡ n = omega arith in
    rw (is, one_digit_alone n rest ends, digit, value) refl
short_day_complete front n rest (inr (small, is)) ends = rw (is, two_at_digits 100 n rest (omega arith) small) refl

pub short_day_reads : Reads short_day read_short_day
unfolding read_short_day
short_day_reads = record {
  sound = λ text n rest e. short_day_sound text _ refl n rest e;
  complete = short_day_complete;
}

-- the digits of a fraction
abbrev add_digit : ℕ → ℕ → ℕ
add_digit n c = n * 10 + (c - 48)

record IsDigits (count value : ℕ) (text : List ℕ) (r : (ℕ × ℕ) × List ℕ) : Type 0 where
  digits : List ℕ
  is : text ≡ digits ++ r.1
  passes : list_all is_digit digits ≡ true
  count_is : r.0.0 ≡ count + length digits
  value_is : r.0.1 ≡ fold add_digit value digits

digits_test : (count value c : ℕ) (cs : List ℕ) (t : Bool) → (is_digit c && nat_lt count 10) ≡ t
    → IsDigits (count + 1) (add_digit value c) cs (digits_from (count + 1) (add_digit value c) cs)
    → IsDigits count value (c ∷ cs) (cond t (digits_from (count + 1) (add_digit value c) cs) ((count, value), c ∷ cs))
digits_test count value c cs false t more = record { digits = []; is = refl; passes = refl; count_is = omega arith; value_is = refl }
digits_test count value c cs true t more =
    let digit : is_digit c ≡ true = grind (arith, nat_tests) in
    record {
      digits = c ∷ more.digits;
      is = ap (λ u. c ∷ u) more.is;
      passes = rw digit more.passes;
      count_is =
          omega (arith, more.count_is);
      value_is = more.value_is;
    }

digits_sound : (text : List ℕ) (count value : ℕ) → IsDigits count value text (digits_from count value text)
digits_sound [] count value = record { digits = []; is = refl; passes = refl; count_is = omega arith; value_is = refl }
digits_sound (c ∷ cs) count value = digits_test count value c cs _ refl (digits_sound cs (count + 1) (add_digit value c))

and_first : (a b : Bool) → (a && b) ≡ true → a ≡ true
and_first true b e = refl
and_first false b e = e

and_second : (a b : Bool) → (a && b) ≡ true → b ≡ true
and_second true b e = e
and_second false b e = cc

digits_complete : (ds : List ℕ) (count value : ℕ) (rest : List ℕ) → list_all is_digit ds ≡ true → count + length ds ≤ 10
    → begins is_digit rest ≡ false → digits_from count value (ds ++ rest) ≡ ((count + length ds, fold add_digit value ds), rest)
digits_complete [] count value [] passes small ends = let e : count + 0 ≡ count = omega arith in rw e refl
digits_complete [] count value (c ∷ cs) passes small ends = let e : count + 0 ≡ count = omega arith in rw (ends, e) refl
digits_complete (d ∷ ds) count value rest passes small ends =
    let first : is_digit d ≡ true = and_first _ _ passes in
    let low : nat_lt count 10 ≡ true = grind (arith, nat_tests) in
    let e : count + 1 + length ds ≡ count + suc (length ds) = omega arith in
    rw (first, low) (digits_complete ds (count + 1) (add_digit value d) rest (and_second _ _ passes) (omega arith) ends ∙ rw e refl)

fraction_end : (count value : ℕ) (r rest : List ℕ) (n : ℕ) (t : Bool) → (nat_lt 0 count && nat_lt count 10) ≡ t
    → cond {A = Read ℕ} t (Some (value * 10 ^ (9 - count), r)) None ≡ Some (n, rest) → (1 ≤ count) × (count ≤ 9)
    × (n ≡ value * 10 ^ (9 - count)) × (r ≡ rest)
fraction_end count value r rest n false t e = cc
fraction_end count value r rest n true t e =
    let pair = some_pair (value * 10 ^ (9 - count)) n r rest _ _ refl refl e in
    (grind (arith, nat_tests), grind (arith, nat_tests), sym pair.0, pair.1)

fraction_sound : (text : List ℕ) (n : ℕ) (rest : List ℕ) → read_fraction text ≡ Some (n, rest) → (front : List ℕ) × (text ≡ front ++ rest)
    × fraction_form front n
unfolding read_fraction digits_number
fraction_sound text n rest e =
    let d = digits_sound text 0 0 in
    let f = fraction_end (digits_from 0 0 text).0.0 (digits_from 0 0 text).0.1 (digits_from 0 0 text).1 rest n _ refl e in
    let count : length d.digits ≡ (digits_from 0 0 text).0.0 = omega (arith, d.count_is) in
    (d.digits, d.is ∙ ap (λ t. d.digits ++ t) f.3, (d.passes, (omega (arith, f.0), omega (arith, f.1)), f.2 ∙ rw (count, d.value_is) refl))

fraction_complete : (front : List ℕ) (n : ℕ) (rest : List ℕ) → fraction_form front n → begins is_digit rest ≡ false
    → read_fraction (front ++ rest) ≡ Some (n, rest)
unfolding read_fraction digits_number
fraction_complete front n rest (passes, within, value) ends =
    let d = digits_complete front 0 0 rest passes (omega (arith, within.1)) ends in
    let count : 0 + length front ≡ length front = omega arith in
    let test : (nat_lt 0 (length front) && nat_lt (length front) 10) ≡ true = grind (arith, nat_tests) in
    rw (d, count, test, value) refl

pub fraction_reads : Reads fraction_form read_fraction
fraction_reads = record { sound = fraction_sound; complete = fraction_complete }

-- the forms of a date with a time
pub timed_dashed_reads : Reads timed_dashed read_iso_stamp
unfolding read_iso_stamp
timed_dashed_reads = joined_reads dashed read_iso_date 32 clock read_clock dashed_reads clock_reads refl

pub timed_fraction_reads : Reads timed_fraction read_fraction_stamp
unfolding read_fraction_stamp
timed_fraction_reads =
    joined_reads dashed read_iso_date 32 (joined clock 46 fraction_form) (joined_at read_clock 46 read_fraction) dashed_reads
    (joined_reads clock read_clock 46 fraction_form read_fraction clock_reads fraction_reads refl) refl

pub timed_long_reads : Reads (timed_day_month month_name) read_long_stamp
unfolding read_long_stamp
timed_long_reads = joined_reads (day_month month_name) read_long_date 32 clock read_clock long_reads clock_reads refl

pub timed_short_reads : Reads (timed_day_month short_month_name) read_short_stamp
unfolding read_short_stamp
timed_short_reads = joined_reads (day_month short_month_name) read_short_date 32 clock read_clock short_reads clock_reads refl

pub timed_slashed_reads : Reads timed_slashed read_us_stamp
unfolding read_us_stamp
timed_slashed_reads = joined_reads slashed read_us_date 32 clock read_clock slashed_reads clock_reads refl

pub timed_weekday_reads : Reads timed_weekday read_weekday_stamp
unfolding read_weekday_stamp
timed_weekday_reads =
    joined_reads weekday_form read_weekday 32 (joined (month_form short_month_name) 32 (joined short_day 32 (joined clock 32 year_form)))
    (joined_at read_short_month 32 (joined_at read_short_day 32 (joined_at read_clock 32 read_year))) weekday_reads
    (joined_reads (month_form short_month_name) read_short_month 32 (joined short_day 32 (joined clock 32 year_form))
    (joined_at read_short_day 32 (joined_at read_clock 32 read_year)) short_month_reads
    (joined_reads short_day read_short_day 32 (joined clock 32 year_form) (joined_at read_clock 32 read_year) short_day_reads
    (joined_reads clock read_clock 32 year_form read_year clock_reads year_reads refl) refl) refl) refl

-- two texts with ends of the same length
append_cancel : (xs us ys vs : List ℕ) → xs ++ ys ≡ us ++ vs → length ys ≡ length vs → (xs ≡ us) × (ys ≡ vs)
append_cancel [] [] ys vs e l = (refl, e)
append_cancel [] (u ∷ us) ys vs e l = absurd (omega (arith, ap length e, length-append us vs))
append_cancel (x ∷ xs) [] ys vs e l = absurd (omega (arith, ap length e, length-append xs ys))
append_cancel (x ∷ xs) (u ∷ us) ys vs e l =
    let first : x ≡ u = cc in
    let rest : xs ++ ys ≡ us ++ vs = cc in
    let more = append_cancel xs us ys vs rest l in
    (rw (first, more.0) refl, more.1)

signs_apart : (a b : ℕ) → a ≡ b → a ≡ 43 → b ≡ 45 → ⊥
signs_apart a b e f g = omega arith

-- the offset that is added to a text is 0
zero_offset : (z : ℤ) → offset_form (codes "+0000") z → z ≡ pos 0
zero_offset z (h, m, a, b, inl (is, value)) =
    let h0 : 48 ≡ 48 + h / 10 = cc in
    let h1 : 48 ≡ 48 + h % 10 = cc in
    let m0 : 48 ≡ 48 + m / 10 = cc in
    let m1 : 48 ≡ 48 + m % 10 = cc in
    let none : h * 3600 + m * 60 ≡ 0 = omega arith in
    value ∙ ap pos none
zero_offset z (h, m, a, b, inr (is, value)) =
    absurd (signs_apart 43 45 (ap (λ (t : List ℕ). get_or t 0 0) is) refl refl)

-- a stamp and its offset are the joined form of the text, with its own offset or the one added to it
pub stamped_found : {A : Type 0} (F : List ℕ → A → Type 0) (r : List ℕ → Read A) → Reads F r
    → (given : Bool) (text : List ℕ) (a : A) (rest : List ℕ) (z : ℤ) → r text ≡ Some (a, rest) → offset_end given rest ≡ Some z
    → joined F 32 offset_form (with_given_offset given text) (a, z)
stamped_found F r reads true text a rest z e o =
    let (s, is, f) = reads.sound text a rest e in
    by_space (after_byte 32 rest) refl o
  where
    by_space : (more : Option (List ℕ)) → after_byte 32 rest ≡ more → whole_of (option_and_then read_offset more) ≡ Some z
        → joined F 32 offset_form text (a, z)
    by_space None t o = cc
    by_space (Some more) t o =
        let (s, is, f) = reads.sound text a rest e in
        (s, more, is ∙ ap (λ u. s ++ u) (after_byte_is 32 rest more t), f, whole_sound offset_form read_offset offset_reads more z o)
stamped_found F r reads false text a [] z e o =
    let (s, is, f) = reads.sound text a [] e in
    let all : text ≡ s = is ∙ append-nil s in
    let zero_is : pos 0 ≡ z = ap (λ v. unwrap_or v z) o in
    (text, codes "+0000", refl, rw all f, (0, 0, omega arith, omega arith, inl (refl, sym zero_is)))
stamped_found F r reads false text a (c ∷ cs) z e o = cc

pub record IsStampRead {A : Type 0} (r : List ℕ → Read A) (given : Bool) (text : List ℕ) (a : A) (z : ℤ) : Type 0 where
  pub rest : List ℕ
  pub read : r text ≡ Some (a, rest)
  pub ends : offset_end given rest ≡ Some z

pub stamped_whole : {A : Type 0} (F : List ℕ → A → Type 0) (r : List ℕ → Read A) → Reads F r
    → (given : Bool) (text : List ℕ) (a : A) (z : ℤ) → joined F 32 offset_form (with_given_offset given text) (a, z)
    → IsStampRead r given text a z
stamped_whole F r reads true text a z (s, u, is, f, o) = record {
  rest = 32 ∷ u;
  read = rw is (reads.complete s a (32 ∷ u) f refl);
  ends = whole_complete offset_form read_offset offset_reads u z o;
}
stamped_whole F r reads false text a z (s, u, is, f, o) =
    let five : length u ≡ 5 = length_offset u z o in
    let same = append_cancel text s (codes " +0000") (32 ∷ u) is (omega (arith, five)) in
    let back : codes "+0000" ≡ u = cc in
    let z0 : z ≡ pos 0 = zero_offset z (rw back o) in
    record { rest = []; read = rw same.0 (ap r (sym (append-nil s)) ∙ reads.complete s a [] f refl); ends = ap Some (sym z0) }
  where
    length_offset : (u : List ℕ) (z : ℤ) → offset_form u z → length u ≡ 5
    length_offset u z (h, m, a, b, inl (is, value)) = ap length is
    length_offset u z (h, m, a, b, inr (is, value)) = ap length is

-- a text has one value of a form with an offset
pub joined_once : {A : Type 0} (F : List ℕ → A → Type 0) (r : List ℕ → Read A) → Reads F r → (text : List ℕ) (a b : A) (y z : ℤ)
    → joined F 32 offset_form text (a, y) → joined F 32 offset_form text (b, z) → (a ≡ b) × (y ≡ z)
joined_once {A = A} F r reads text a b y z h k =
    let both = joined_reads F r 32 offset_form read_offset reads offset_reads refl in
    let e = sym (whole_complete (joined F 32 offset_form) (joined_at r 32 read_offset) both text (a, y) h)
    ∙ whole_complete (joined F 32 offset_form) (joined_at r 32 read_offset) both text (b, z) k in
    (ap (λ (o : Option (A × ℤ)). (unwrap_or o (a, y)).0) e, ap (λ (o : Option (A × ℤ)). (unwrap_or o (a, y)).1) e)
