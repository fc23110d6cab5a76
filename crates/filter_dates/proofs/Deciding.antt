-- Facts that are true or not, and values that exist or not.
use Rattle.std.proofs.Common.{
  ◌≡◌,
  ◌⊎◌,
  inl,
  inr,
  ℕ,
  ◌^◌,
  ◌<◌,
  ◌≤◌,
  Bool,
  true,
  false,
  List,
  [],
  ◌∷◌,
  length,
  refl,
  arith,
  ℤ,
  pos,
  neg_ℤ,
  ◌-◌,
}
use Rattle.std.specs.Int.{w64}
use Rattle.std.specs.Prelude.{FitsSigned, ◌≤ℤ◌, ◌<ℤ◌}
use Rattle.std.specs.Char.{digit_value}
use Rattle.std.specs.Int.Signed.{le_z}
use Rattle.std.specs.Str.{bytes_eq}
use Rattle.std.specs.Str.Parse.{AllDigits, IsNumeral}
use Rattle.std.proofs.lemmas.Bool.{cases_lt}
use Rattle.std.proofs.lemmas.Slice.Eq.{bytes_eq-Decides}
use Rattle.jiff_core.proofs.SignedLemmas.{signed_arith}
use Rattle.liquid_dates.specs.meaning.DateText.{first}

-- a fact is true or not
abbrev pub Either : Type 0 → Type 0
Either P = P ⊎ (¬ P)

pub both : {P Q : Type 0} → Either P → Either Q → Either (P × Q)
both (inl p) (inl q) = inl (p, q)
both (inl p) (inr fails) = inr (λ h. fails h.1)
both (inr fails) q = inr (λ h. fails h.0)

pub all_three : {P Q R : Type 0} → Either P → Either Q → Either R → Either (P × Q × R)
all_three (inl p) (inl q) (inl r) = inl (p, q, r)
all_three (inl p) (inl q) (inr fails) = inr (λ h. fails h.2)
all_three (inl p) (inr fails) r = inr (λ h. fails h.1)
all_three (inr fails) q r = inr (λ h. fails h.0)

pub all_four : {P Q R S : Type 0} → Either P → Either Q → Either R → Either S → Either (P × Q × R × S)
all_four (inl p) (inl q) (inl r) (inl s) = inl (p, q, r, s)
all_four (inl p) (inl q) (inl r) (inr fails) = inr (λ h. fails h.3)
all_four (inl p) (inl q) (inr fails) s = inr (λ h. fails h.2)
all_four (inl p) (inr fails) r s = inr (λ h. fails h.1)
all_four (inr fails) q r s = inr (λ h. fails h.0)

pub one_of : {P Q : Type 0} → Either P → Either Q → Either (P ⊎ Q)
one_of (inl p) q = inl (inl p)
one_of (inr fails) (inl q) = inl (inr q)
one_of {P = P} {Q = Q} (inr fails) (inr none) = inr neither
  where
    neither : P ⊎ Q → ⊥
    neither (inl p) = fails p
    neither (inr q) = none q

pub at_most : (a b : ℕ) → Either (a ≤ b)
at_most a b = by_cases (cases_lt b a)
  where
    by_cases : (b < a) ⊎ (a ≤ b) → Either (a ≤ b)
    by_cases (inl h) = inr (λ k. omega arith)
    by_cases (inr h) = inl h

pub below : (a b : ℕ) → Either (a < b)
below a b = by_cases (cases_lt a b)
  where
    by_cases : (a < b) ⊎ (b ≤ a) → Either (a < b)
    by_cases (inl h) = inl h
    by_cases (inr h) = inr (λ k. omega arith)

pub at_most_z : (a b : ℤ) → Either (a ≤ℤ b)
at_most_z a b = by_test (le_z a b) refl
  where
    by_test : (t : Bool) → le_z a b ≡ t → Either (a ≤ℤ b)
    by_test true e = inl (omega (arith, signed_arith))
    by_test false e = inr (λ h. omega (arith, signed_arith))

pub cases_z : (a b : ℤ) → (a ≤ℤ b) ⊎ (b <ℤ a)
cases_z a b = by_test (le_z a b) refl
  where
    by_test : (t : Bool) → le_z a b ≡ t → (a ≤ℤ b) ⊎ (b <ℤ a)
    by_test true e = inl (omega (arith, signed_arith))
    by_test false e = inr (omega (arith, signed_arith))

pub equal_texts : (a b : List ℕ) → Either (a ≡ b)
equal_texts a b = by_test (bytes_eq a b) refl
  where
    by_test : (t : Bool) → bytes_eq a b ≡ t → Either (a ≡ b)
    by_test true e = inl ((bytes_eq-Decides a b).0 e)
    by_test false e = inr (λ h. let k = (bytes_eq-Decides a b).1 h in cc)

all_digits : (radix : ℕ) (ds : List ℕ) → Either (AllDigits radix ds)
all_digits radix [] = inl tt
all_digits radix (c ∷ cs) = both (below (digit_value c) radix) (all_digits radix cs)

pub is_numeral : (radix : ℕ) (ds : List ℕ) → Either (IsNumeral radix ds)
is_numeral radix ds = both (below 0 (length ds)) (all_digits radix ds)

-- a number of 64 bits
pub fits : (z : ℤ) → Either (FitsSigned w64 z)
fits z = by_cases (both (at_most_z (neg_ℤ (pos (2 ^ 63))) z) (at_most_z z (pos (2 ^ 63 - 1))))
  where
    by_cases : Either ((neg_ℤ (pos (2 ^ 63)) ≤ℤ z) × (z ≤ℤ pos (2 ^ 63 - 1))) → Either (FitsSigned w64 z)
    by_cases (inl h) = inl (omega (arith, signed_arith, h.0, h.1))
    by_cases (inr fails) = inr (λ f. fails (omega (arith, signed_arith, f), omega (arith, signed_arith, f)))

-- a value fits, or none does
abbrev pub Decided : {A : Type 0} → (A → Type 0) → Type 0
Decided {A = A} P = ((a : A) × P a) ⊎ ((a : A) → ¬ (P a))

pub same_decided : {A : Type 0} (P Q : A → Type 0) → ((a : A) → P a → Q a) → ((a : A) → Q a → P a) → Decided P → Decided Q
same_decided P Q to from (inl (a, p)) = inl (a, to a p)
same_decided P Q to from (inr none) = inr (λ a q. none a (from a q))

-- the first form that fits
pub first_decided : {A : Type 0} (F G : List ℕ → A → Type 0) (text : List ℕ) → Decided (F text) → Decided (G text)
    → Decided (first F G text)
first_decided F G text (inl (a, f)) g = inl (a, inl f)
first_decided F G text (inr none) (inl (a, g)) = inl (a, inr (none, g))
first_decided {A = A} F G text (inr none) (inr fails) = inr neither
  where
    neither : (a : A) → ¬ (first F G text a)
    neither a (inl f) = none a f
    neither a (inr (_, g)) = fails a g
