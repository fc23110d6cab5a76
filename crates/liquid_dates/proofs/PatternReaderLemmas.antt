-- The reader's steps over flags, digits and letters.
use Rattle.std.proofs.Common.{
  ◌≡◌,
  ℕ,
  ◌+◌,
  ◌-◌,
  ◌*◌,
  ◌^◌,
  ◌<◌,
  ◌≤◌,
  Bool,
  true,
  false,
  cond,
  List,
  [],
  ◌∷◌,
  refl,
  sym,
  ap,
  ◌∙◌,
  arith,
  fold,
  Some,
  None,
  nat_lt,
  lt-ltb,
  lit<,
  Err,
}
use Rattle.std.proofs.lemmas.Bool.{ltb-true}
use Rattle.liquid_dates.specs.declared.error.DateFormatError.TheVariants.{InvalidWidth}
use Rattle.std.proofs.lemmas.Bool.Decides.{nat_tests}
use Rattle.liquid_dates.specs.declared.flags.Flags.{Flags}
use Rattle.liquid_dates.specs.declared.pattern.Width.{Width}
use Rattle.liquid_dates.specs.declared.pattern.Width.TheVariants.{Unset, Given, TooGreat}
use Rattle.liquid_dates.specs.meaning.Flags.{is_flag, with_flag, flags_of, no_flags, is_digit, digits_number, width_of}
use Rattle.liquid_dates.specs.steps.PatternReader.{
  front,
  following,
  flags_from,
  width_from,
  with_digit,
  bounded_width,
  directive_at,
  after_width,
  modifier_at,
}

flags_from_test : (flags : Flags) (c : ℕ) (cs : List ℕ) (b : Bool) → flags_from (with_flag flags c) cs ≡ fold with_flag
    (with_flag flags c) (front is_flag cs) → cond b (flags_from (with_flag flags c) cs) flags ≡ fold with_flag flags
    (cond b (c ∷ front is_flag cs) [])
flags_from_test flags c cs true e = e
flags_from_test flags c cs false e = refl

-- the flags read one by one are the flags at the front
pub flags_from_is : (flags : Flags) (cs : List ℕ) → flags_from flags cs ≡ fold with_flag flags (front is_flag cs)
flags_from_is flags [] = refl
flags_from_is flags (c ∷ cs) = flags_from_test flags c cs (is_flag c) (flags_from_is (with_flag flags c) cs)

pub flags_from_none : (cs : List ℕ) → flags_from no_flags cs ≡ flags_of (front is_flag cs)
unfolding flags_of
flags_from_none cs = flags_from_is no_flags cs

-- one more digit of a number
abbrev pub add_digit : ℕ → ℕ → ℕ
add_digit n c = n * 10 + (c - 48)

bounded_more : (n c : ℕ) (b : Bool) → nat_lt n (2 ^ 64) ≡ b → with_digit (cond b (Given n) TooGreat) c ≡ bounded_width (add_digit n c)
bounded_more n c true e = refl
bounded_more n c false e =
    let high : nat_lt (add_digit n c) (2 ^ 64) ≡ false = grind (arith, nat_tests) in
    rw high

width_from_test : (n c : ℕ) (cs : List ℕ) (b : Bool) → width_from (bounded_width (add_digit n c)) cs ≡ bounded_width
    (fold add_digit (add_digit n c) (front is_digit cs)) → cond b (width_from (with_digit (bounded_width n) c) cs)
    (bounded_width n) ≡ bounded_width (fold add_digit n (cond b (c ∷ front is_digit cs) []))
width_from_test n c cs true e = ap (λ w. width_from w cs) (bounded_more n c _ refl) ∙ e
width_from_test n c cs false e = refl

width_from_bounded : (n : ℕ) (cs : List ℕ) → width_from (bounded_width n) cs ≡ bounded_width (fold add_digit n (front is_digit cs))
width_from_bounded n [] = refl
width_from_bounded n (c ∷ cs) = width_from_test n c cs (is_digit c) (width_from_bounded (add_digit n c) cs)

-- the width that digits write, as a number of 64 bits
abbrev pub width_read : List ℕ → Width
width_read [] = Unset
width_read (d ∷ ds) = bounded_width (digits_number (d ∷ ds))

width_first : (c : ℕ) (cs : List ℕ) (b : Bool) → is_digit c ≡ b → width_from (bounded_width (add_digit 0 c)) cs ≡ bounded_width
    (fold add_digit (add_digit 0 c) (front is_digit cs)) → cond b (width_from (Given (c - 48)) cs) Unset ≡ width_read
    (cond b (c ∷ front is_digit cs) [])
unfolding digits_number
width_first c cs true d e =
    let low : nat_lt (add_digit 0 c) (2 ^ 64) ≡ true = grind (arith, nat_tests) in
    let same : Given (c - 48) ≡ bounded_width (add_digit 0 c) = rw low (ap Given (omega arith)) in
    ap (λ w. width_from w cs) same ∙ e
width_first c cs false d e = refl

-- the digits read one by one are the width at the front
pub width_from_unset : (cs : List ℕ) → width_from Unset cs ≡ width_read (front is_digit cs)
width_from_unset [] = refl
width_from_unset (c ∷ cs) = width_first c cs _ refl (width_from_bounded (add_digit 0 c) cs)

-- what a width that was read says about its digits
bounded_given : (n k : ℕ) → bounded_width n ≡ Given k → (n ≡ k) × (n < 2 ^ 64)
bounded_given n k e = by_test n k _ refl e
  where
    by_test : (n k : ℕ) (b : Bool) → nat_lt n (2 ^ 64) ≡ b → cond b (Given n) TooGreat ≡ Given k → (n ≡ k) × (n < 2 ^ 64)
    by_test n k true t e = (cc, ltb-true _ _ t)
    by_test n k false t e = cc

bounded_great : (n : ℕ) → bounded_width n ≡ TooGreat → 2 ^ 64 ≤ n
bounded_great n e = by_test n _ refl e
  where
    by_test : (n : ℕ) (b : Bool) → nat_lt n (2 ^ 64) ≡ b → cond b (Given n) TooGreat ≡ TooGreat → 2 ^ 64 ≤ n
    by_test n true t e = cc
    by_test n false t e = grind (arith, nat_tests)

bounded_set : (n : ℕ) → bounded_width n ≡ Unset → ⊥
bounded_set n e = by_test n _ e
  where
    by_test : (n : ℕ) (b : Bool) → cond b (Given n) TooGreat ≡ Unset → ⊥
    by_test n true e = cc
    by_test n false e = cc

pub read_unset : (ds : List ℕ) → width_read ds ≡ Unset → (None ≡ width_of ds) × (digits_number ds < 2 ^ 64)
unfolding width_of digits_number
read_unset [] e = (refl, lit< tt)
read_unset (d ∷ ds) e = absurd (bounded_set _ e)

pub read_given : (ds : List ℕ) (n : ℕ) → width_read ds ≡ Given n → (Some n ≡ width_of ds) × (digits_number ds < 2 ^ 64)
unfolding width_of
read_given [] n e = cc
read_given (d ∷ ds) n e = let is = bounded_given _ n e in (ap Some (sym is.0), is.1)

pub read_great : (ds : List ℕ) → width_read ds ≡ TooGreat → 2 ^ 64 ≤ digits_number ds
read_great [] e = cc
read_great (d ∷ ds) e = bounded_great _ e

-- the parts of a directive, one after another
pub directive_at_is : (cs b d : List ℕ) → b ≡ following is_flag cs → d ≡ following is_digit b
    → directive_at cs ≡ after_width (front is_flag cs) (front is_digit b) d
unfolding directive_at
directive_at_is cs b d e f = rw (f, e) refl

pub after_width_fits : (fs ds : List ℕ) (c : ℕ) (cs : List ℕ) → digits_number ds < 2 ^ 64
    → after_width fs ds (c ∷ cs) ≡ modifier_at fs ds c cs
after_width_fits fs ds c cs h = rw (lt-ltb _ _ h)

pub after_width_great : (fs ds : List ℕ) (c : ℕ) (cs : List ℕ) → 2 ^ 64 ≤ digits_number ds → after_width fs ds (c ∷ cs) ≡ Err InvalidWidth
after_width_great fs ds c cs h = let e : nat_lt (digits_number ds) (2 ^ 64) ≡ false = grind (arith, nat_tests) in rw e
