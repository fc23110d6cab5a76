-- Long division, a digit a turn.
use Rattle.std.proofs.Common.{
  ◌≡◌,
  ℕ,
  ◌+◌,
  ◌-◌,
  ◌*◌,
  ◌/◌,
  ◌%◌,
  ◌^◌,
  ◌<◌,
  ◌≤◌,
  pos,
  neg_ℤ,
  FitsSigned,
  w64,
  unsigned_abs,
  Bool,
  true,
  false,
  None,
  refl,
  sym,
  ap,
  ◌∙◌,
  arith,
}
use Rattle.std.specs.Int.{is_negative}
use Rattle.std.specs.Int.Signed.{le_z}
use Rattle.std.proofs.Math.Nat.{mul_comm, mul_assoc, one-le-pow, zero-mul}
use Rattle.std.proofs.lemmas.Int.{ints}
use Rattle.std.proofs.lemmas.Nat.{div-mul-add, pow-add, le-div, mul-le, div-add-mod', div_below}
use Rattle.std.proofs.lemmas.Bool.Decides.{nat_tests}
use Rattle.liquid_decimals.specs.meaning.Dec.{Dec, limited, signed}
use Rattle.liquid_decimals.specs.meaning.Rounding.{nearest, round_to_power}
use Rattle.liquid_decimals.proofs.Tens.{tens_le}

pub doubled_left : (q d : ℕ) → q * (2 * d) ≡ 2 * (q * d)
doubled_left q d = sym (mul_assoc q 2 d) ∙ ap (λ x. x * d) (mul_comm q 2) ∙ mul_assoc 2 q d

-- the quotient of a division with rest, rounded: a rest of half the divisor or more adds one
pub nearest_below : (n d q r : ℕ) → n ≡ q * d + r → 2 * r < d → nearest n d ≡ q
nearest_below n d q r e low =
    let parts : 2 * n + d ≡ q * (2 * d) + (2 * r + d) = omega (arith, doubled_left q d) in
    ap (λ x. x / (2 * d)) parts ∙ div-mul-add q (2 * d) (2 * r + d) (omega arith)

-- one more digit of a long division
pub next_digit : (n d q r : ℕ) → 0 < d → q * d + r ≡ n → (q * 10 + r * 10 / d) * d + r * 10 % d ≡ n * 10
next_digit n d q r h e =
    let tenfold : (q * 10) * d ≡ 10 * (q * d) = ap (λ x. x * d) (mul_comm q 10) ∙ mul_assoc 10 q d in
    let rest : r * 10 / d * d + r * 10 % d ≡ r * 10 = div-add-mod' (r * 10) d in
    let split : (q * 10 + r * 10 / d) * d ≡ (q * 10) * d + r * 10 / d * d = grind arith in
    omega arith

-- a quotient is no less than what fits into the dividend
pub nearest_ge : (n d q : ℕ) → 0 < d → q * d ≤ n → q ≤ nearest n d
nearest_ge n d q h e = le-div q (2 * n + d) (2 * d) (omega arith) (omega (arith, doubled_left q d))

pub one_le_tens : (k : ℕ) → 1 ≤ 10 ^ k
one_le_tens k = one-le-pow k 10 (omega arith)

-- more digits make a quotient no less
pub nearest_ge-later : (n m d q j : ℕ) → 0 < d → q * d ≤ m → m * 10 ^ j ≡ n → q ≤ nearest n d
nearest_ge-later n m d q j h e f =
    nearest_ge n d q h (let w : m ≤ m * 10 ^ j = grind (arith, one_le_tens j, mul-le m 1 m (10 ^ j)) in omega arith)

-- ten times as many
pub tenfold_power : (n i : ℕ) → n * 10 ^ i * 10 ≡ n * 10 ^ (i + 1)
tenfold_power n i = mul_assoc n (10 ^ i) 10 ∙ ap (λ x. n * x) (sym (pow-add 10 i 1))

-- the next digit is at most 9
pub digit_below_10 : (r d : ℕ) → r < d → r * 10 / d < 10
digit_below_10 r d h = div_below (r * 10) d 10 (omega arith) (omega arith)

-- a quotient that is past its limit before the last digit is past it at the end
pub past_at_end : (m d k i q r : ℕ) → 0 < d → q * d + r ≡ m * 10 ^ i → i ≤ k → q ≤ nearest (m * 10 ^ k) d
past_at_end m d k i q r h e le =
    let more : m * 10 ^ i * 10 ^ (k - i) ≡ m * 10 ^ k =
    mul_assoc m (10 ^ i) (10 ^ (k - i)) ∙ ap (λ x. m * x) (sym (pow-add 10 i (k - i)) ∙ ap (λ x. 10 ^ x) (omega arith)) in
    nearest_ge-later (m * 10 ^ k) (m * 10 ^ i) d q (k - i) h (omega arith) more

-- a magnitude of 2^64 or more is no mantissa
pub limited_past : (minus : Bool) (n s : ℕ) → 2 ^ 64 ≤ n → None ≡ limited (signed minus n) s
limited_past true n s h =
    let out : le_z (neg_ℤ (pos (2 ^ 63))) (neg_ℤ (pos n)) ≡ false = grind (arith, nat_tests, ints) in grind (arith, nat_tests)
limited_past false n s h = let out : le_z (pos n) (pos (2 ^ 63 - 1)) ≡ false = grind (arith, nat_tests) in grind (arith, nat_tests)

-- the multiple of a power above 19 that is nearest to a mantissa is 0
pub far_rounds : (d : Dec) (p : ℕ) → FitsSigned w64 d.0 → 19 < p → limited (pos 0) 0 ≡ round_to_power p d
far_rounds d p fits far =
    let power : 10 ^ 20 ≤ 10 ^ (d.1 + p) = tens_le 20 (d.1 + p) (omega arith) in
    let magnitude : unsigned_abs d.0 ≤ 2 ^ 63 = omega (arith, ints, fits.sfits) in
    let none : nearest (unsigned_abs d.0) (10 ^ (d.1 + p)) ≡ 0 = nearest_below (unsigned_abs d.0) (10 ^ (d.1 + p)) 0 (unsigned_abs d.0)
    (sym (ap (λ x. x + unsigned_abs d.0) (zero-mul (10 ^ (d.1 + p))) ∙ omega arith)) (omega arith) in
    rw (none, zero-mul (10 ^ p)) (elim (is_negative d.0) as
    (λ b. limited (pos 0) 0 ≡ limited (signed b 0) 0) [ true ↦ refl | false ↦ refl ])
