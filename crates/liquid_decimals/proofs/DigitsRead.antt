-- Digits that are read from left to right, and the number that they write.
use Rattle.std.proofs.Common.{
  ◌≡◌,
  ℕ,
  ◌+◌,
  ◌-◌,
  ◌*◌,
  ◌^◌,
  ◌<◌,
  ◌≤◌,
  ℤ,
  List,
  [],
  ◌∷◌,
  ◌++◌,
  length,
  get_or,
  drop,
  Bool,
  true,
  false,
  ◌&&◌,
  cond,
  eqb,
  ltb,
  Option,
  Some,
  None,
  refl,
  sym,
  ap,
  ◌∙◌,
  arith,
}
use Rattle.std.specs.Char.{digit_value, is_ascii_digit}
use Rattle.std.specs.Option.{option_and_then}
use Rattle.std.specs.Str.{all_ascii_digits}
use Rattle.std.specs.Str.Parse.{digits_value, digits_value_after}
use Rattle.std.proofs.lemmas.List.{at_drop_more}
use Rattle.std.proofs.lemmas.List.Quantifiers.{position-Some}
use Rattle.std.proofs.lemmas.Bool.Decides.{nat_tests}
use Rattle.liquid_decimals.specs.meaning.Dec.{limited, signed}
use Rattle.liquid_decimals.specs.meaning.Text.{decimal_of_parts, decimal_of_whole, is_numeral, point}
use Rattle.liquid_decimals.specs.steps.Digits.{digits_after, with_digit}
use Rattle.liquid_decimals.proofs.Nearest.{limited_past}

value_of_digit : (c : ℕ) → is_ascii_digit c ≡ true → digit_value c ≡ c - 48
value_of_digit c h = grind (arith, nat_tests)

-- more digits make a number no less
value_ge : (n : ℕ) (cs : List ℕ) → n ≤ digits_value_after 10 n cs
value_ge n [] = omega arith
value_ge n (c ∷ cs) = omega (arith, value_ge (n * 10 + digit_value c) cs)

pub value_append : (n : ℕ) (xs ys : List ℕ) → digits_value_after 10 n (xs ++ ys) ≡ digits_value_after 10 (digits_value_after 10 n xs) ys
value_append n [] ys = refl
value_append n (x ∷ xs) ys = value_append (n * 10 + digit_value x) xs ys

-- what the reader returns, by the number that all digits write
abbrev answer : ℕ → List ℕ → Option ℕ
answer n cs = cond (all_ascii_digits cs && ltb (digits_value_after 10 n cs) (2 ^ 64)) (Some (digits_value_after 10 n cs)) None

past : (n : ℕ) (cs : List ℕ) → 2 ^ 64 ≤ n → None ≡ answer n cs
past n cs h = let w = value_ge n cs in grind (arith, nat_tests)

fit : (t : Bool) (m : ℕ) (cs : List ℕ) → ltb m (2 ^ 64) ≡ t → (m < 2 ^ 64 → digits_after m cs ≡ answer m cs)
    → option_and_then (λ k. digits_after k cs) (cond t (Some m) None) ≡ answer m cs
fit true m cs e rest = rest (grind (arith, nat_tests))
fit false m cs e rest = past m cs (grind (arith, nat_tests))

step : (t : Bool) (d v n : ℕ) (cs : List ℕ) → (t ≡ true → v ≡ d)
    → (n * 10 + d < 2 ^ 64 → digits_after (n * 10 + d) cs ≡ answer (n * 10 + d) cs)
    → option_and_then (λ k. digits_after k cs) (cond (t && ltb (n * 10 + d) (2 ^ 64)) (Some (n * 10 + d)) None)
    ≡ cond ((t && all_ascii_digits cs) && ltb (digits_value_after 10 (n * 10 + v) cs) (2 ^ 64))
    (Some (digits_value_after 10 (n * 10 + v) cs)) None
step false d v n cs e rest = refl
step true d v n cs e rest = rw (e refl) (fit (ltb (n * 10 + d) (2 ^ 64)) (n * 10 + d) cs refl rest)

pub digits_after_is : (n : ℕ) (cs : List ℕ) → n < 2 ^ 64 → digits_after n cs ≡ answer n cs
digits_after_is n [] h = grind (arith, nat_tests)
digits_after_is n (c ∷ cs) h =
    step (is_ascii_digit c) (c - 48) (digit_value c) n cs (value_of_digit c) (λ below. digits_after_is (n * 10 + (c - 48)) cs below)

pub numeral_is : (ds : List ℕ) → 0 < length ds → is_numeral ds ≡ all_ascii_digits ds
numeral_is ds h = grind (arith, nat_tests)

-- a magnitude past 2^64 makes no decimal, so the limit of the reader changes nothing
chosen_fit : (minus : Bool) (v s : ℕ) (t : Bool) → ltb v (2 ^ 64) ≡ t
    → option_and_then (λ n. limited (signed minus n) s) (cond t (Some v) None) ≡ limited (signed minus v) s
chosen_fit minus v s true e = refl
chosen_fit minus v s false e = limited_past minus v s (grind (arith, nat_tests))

chosen : (minus t : Bool) (v s : ℕ) → option_and_then (λ n. limited (signed minus n) s) (cond (t && ltb v (2 ^ 64)) (Some v) None)
    ≡ cond t (limited (signed minus v) s) None
chosen minus false v s = refl
chosen minus true v s = chosen_fit minus v s (ltb v (2 ^ 64)) refl

pub whole_is : (minus : Bool) (ds : List ℕ) → 0 < length ds
    → option_and_then (λ n. limited (signed minus n) 0) (digits_after 0 ds) ≡ decimal_of_whole minus ds
whole_is minus ds h =
    rw (digits_after_is 0 ds (omega arith), numeral_is ds h) (chosen minus (all_ascii_digits ds) (digits_value 10 ds) 0)

opened : (t : Bool) (v m : ℕ) → cond (t && ltb v (2 ^ 64)) (Some v) None ≡ Some m → (t ≡ true) × (v < 2 ^ 64) × (v ≡ m)
opened true v m e = grind (arith, nat_tests)
opened false v m e = cc

pub parts_some : (minus : Bool) (whole fraction : List ℕ) (m : ℕ) → 0 < length whole → 0 < length fraction → digits_after 0 whole ≡ Some m
    → option_and_then (λ n. limited (signed minus n) (length fraction)) (digits_after m fraction) ≡ decimal_of_parts minus whole fraction
parts_some minus whole fraction m hw hf e =
    let first = opened (all_ascii_digits whole) (digits_value 10 whole) m (sym (digits_after_is 0 whole (omega arith)) ∙ e) in
    let small : m < 2 ^ 64 = omega arith in
    rw (digits_after_is m fraction small, numeral_is whole hw, numeral_is fraction hf, first.0, value_append 0 whole fraction, first.2)
    (chosen minus (all_ascii_digits fraction) (digits_value_after 10 m fraction) (length fraction))

far : (v : ℕ) → cond (ltb v (2 ^ 64)) (Some v) None ≡ None → 2 ^ 64 ≤ v
far v e = grind (arith, nat_tests)

none_by : (t u minus : Bool) (v x s : ℕ) → v ≤ x → cond (t && ltb v (2 ^ 64)) (Some v) None ≡ None
    → None ≡ cond (t && u) (limited (signed minus x) s) None
none_by false u minus v x s le e = refl
none_by true false minus v x s le e = refl
none_by true true minus v x s le e = limited_past minus x s (omega (arith, far v e))

pub parts_none : (minus : Bool) (whole fraction : List ℕ) → 0 < length whole → 0 < length fraction → digits_after 0 whole ≡ None
    → None ≡ decimal_of_parts minus whole fraction
parts_none minus whole fraction hw hf e =
    rw (numeral_is whole hw, numeral_is fraction hf, value_append 0 whole fraction)
    (none_by (all_ascii_digits whole) (all_ascii_digits fraction) minus (digits_value 10 whole) _ (length fraction)
    (value_ge (digits_value 10 whole) fraction) (sym (digits_after_is 0 whole (omega arith)) ∙ e))

long : (t : Bool) (m : ℤ) (s : ℕ) → 18 < s → None ≡ cond t (limited m s) None
long true m s h = grind (arith, nat_tests)
long false m s h = refl

pub parts_long : (minus : Bool) (whole fraction : List ℕ) → 18 < length fraction → None ≡ decimal_of_parts minus whole fraction
parts_long minus whole fraction h =
    long (is_numeral whole && is_numeral fraction) (signed minus (digits_value 10 (whole ++ fraction))) (length fraction) h

-- one more digit
pub step_some : (m k : ℕ) (ds : List ℕ) (i : ℕ) → i < length ds → with_digit m (get_or ds i 0) ≡ Some k
    → digits_after m (drop i ds) ≡ digits_after k (drop (i + 1) ds)
step_some m k ds i h e = at_drop_more (digits_after m) ds i 0 h ∙ ap (option_and_then (λ n. digits_after n (drop (i + 1) ds))) e

pub step_none : (m : ℕ) (ds : List ℕ) (i : ℕ) → i < length ds → with_digit m (get_or ds i 0) ≡ None → None ≡ digits_after m (drop i ds)
step_none m ds i h e = sym (at_drop_more (digits_after m) ds i 0 h ∙ ap (option_and_then (λ n. digits_after n (drop (i + 1) ds))) e)

pub point_within : (bytes : List ℕ) (i : ℕ) → point bytes ≡ Some i → i < length bytes
point_within bytes i e = (position-Some (λ c. eqb c 46) bytes i 0 e).0
