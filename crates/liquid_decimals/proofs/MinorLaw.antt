-- A change to a smaller unit and back.
use Rattle.std.proofs.Common.{
  ◌≡◌,
  ℕ,
  ℤ,
  pos,
  neg_ℤ,
  ◌+◌,
  ◌-◌,
  ◌*◌,
  ◌/◌,
  ◌%◌,
  ◌^◌,
  ◌<◌,
  ◌≤◌,
  ◌*ℤ◌,
  Bool,
  true,
  false,
  ◌&&◌,
  cond,
  eqb,
  leb,
  Some,
  None,
  unsigned_abs,
  refl,
  sym,
  ap,
  ◌∙◌,
  ⊎_elim,
  arith,
}
use Rattle.std.specs.Prelude.{IfSome, not}
use Rattle.std.specs.Int.{is_negative}
use Rattle.std.proofs.Math.Nat.{mul_assoc}
use Rattle.std.proofs.lemmas.Bool.{cases_lt}
use Rattle.std.proofs.lemmas.Bool.Decides.{nat_tests}
use Rattle.std.proofs.lemmas.Nat.{div-add-mod', pow-add}
use Rattle.liquid_decimals.specs.meaning.Dec.{Dec, SameValue, is_mantissa, limited, signed}
use Rattle.liquid_decimals.specs.meaning.Rounding.{loses_digits, nearest, round}
use Rattle.liquid_decimals.proofs.LawProofs.{negated_times, rest_of_scale}
use Rattle.liquid_decimals.proofs.Nearest.{nearest_below}
use Rattle.liquid_decimals.proofs.Tens.{signed_product, tens_above_0}

-- a power of ten in two parts
parted : (n s t : ℕ) → s ≤ t → n * 10 ^ (t - s) * 10 ^ s ≡ n * 10 ^ t
parted n s t h =
    mul_assoc n (10 ^ (t - s)) (10 ^ s) ∙ ap (λ p. n * p) (sym (pow-add 10 (t - s) s) ∙ ap (λ e. 10 ^ e) (rest_of_scale s t h))

no_rest : (n p : ℕ) → n % p ≡ 0 → n / p * p ≡ n
no_rest n p e = omega (arith, div-add-mod' n p)

zero_more : (n : ℕ) → n ≡ n + 0
zero_more n = omega arith

-- a quotient without a rest is not rounded
exact : (n q d : ℕ) → 0 < d → n ≡ q * d → nearest n d * d ≡ n
exact n q d h e = ap (λ x. x * d) (nearest_below n d q 0 (e ∙ zero_more (q * d)) (omega arith)) ∙ sym e

kept_digits : (n s t : ℕ) → n % 10 ^ (t - s) ≡ 0 → nearest (n * 10 ^ s) (10 ^ t) * 10 ^ t ≡ n * 10 ^ s
kept_digits n s t e =
    ⊎_elim (λ (h : s < t).
    let p = 10 ^ (t - s) in
    exact (n * 10 ^ s) (n / p) (10 ^ t) (tens_above_0 t)
    (ap (λ m. m * 10 ^ s) (sym (no_rest n p e)) ∙ parted (n / p) s t (omega arith)))
    (λ (h : t ≤ s). exact (n * 10 ^ s) (n * 10 ^ (s - t)) (10 ^ t) (tens_above_0 t) (sym (parted n t s h)))
    (cases_lt s t)

signed_times : (minus : Bool) (n p : ℕ) → signed minus n *ℤ pos p ≡ signed minus (n * p)
signed_times true n p = negated_times n p
signed_times false n p = refl

if_some : (t : Bool) (m : ℤ) (s : ℕ) (d : Dec) → SameValue (m, s) d → IfSome (cond t (Some (m, s)) None) (λ r. SameValue r d)
if_some true m s d h = h
if_some false m s d h = tt

not_lost : (n : ℕ) → not (eqb n 0) ≡ false → n ≡ 0
not_lost n h = grind (arith, nat_tests)

pub minor_and_back : (d : Dec) (s : ℕ) → loses_digits s d ≡ false → IfSome (round s d) (λ r. SameValue r d)
minor_and_back d s h =
    let n = unsigned_abs d.0 in
    let minus = is_negative d.0 in
    let q = nearest (n * 10 ^ s) (10 ^ d.1) in
    let whole : n % 10 ^ (d.1 - s) ≡ 0 = not_lost (n % 10 ^ (d.1 - s)) h in
    let same : SameValue (signed minus q, s) d =
    signed_times minus q (10 ^ d.1) ∙ ap (signed minus) (kept_digits n s d.1 whole) ∙ signed_product d.0 (10 ^ s) in
    if_some (leb s 18 && is_mantissa (signed minus q)) (signed minus q) s d same
