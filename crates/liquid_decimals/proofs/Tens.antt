-- Powers of ten, and their products.
use Rattle.std.proofs.Common.{
  ◌≡◌,
  ◌≢◌,
  ℕ,
  ℤ,
  pos,
  negsuc,
  suc,
  ◌-◌,
  ◌*◌,
  ◌*ℤ◌,
  ◌^◌,
  ◌<◌,
  ◌≤◌,
  neg_ℤ,
  None,
  true,
  false,
  eqb,
  unsigned_abs,
  refl,
  sym,
  ap,
  arith,
}
use Rattle.std.specs.Int.Signed.{le_z, lt_z}
use Rattle.std.proofs.Math.Nat.{one-le-pow, pow-le-pow_right, zero-mul}
use Rattle.std.proofs.lemmas.Bool.Decides.{nat_tests}
use Rattle.std.proofs.lemmas.Nat.{mul-le}
use Rattle.std.proofs.lemmas.Int.{ints}
use Rattle.std.specs.Int.{is_negative}
use Rattle.liquid_decimals.specs.meaning.Dec.{limited, signed}
use Rattle.liquid_decimals.specs.meaning.Arithmetic.{power_of_ten_times}

pub tens_above_0 : (k : ℕ) → 0 < 10 ^ k
tens_above_0 k = omega (arith, one-le-pow k 10 (omega arith))

pub tens_le : (j k : ℕ) → j ≤ k → 10 ^ j ≤ 10 ^ k
tens_le j k h = pow-le-pow_right (omega arith) h

pub tens_le_18 : (k : ℕ) → k ≤ 18 → 10 ^ k ≤ 10 ^ 18
tens_le_18 k h = tens_le k 18 h

pub tens_le_19 : (k : ℕ) → k ≤ 19 → 10 ^ k ≤ 10 ^ 19
tens_le_19 k h = tens_le k 19 h

pub tens_le_37 : (k : ℕ) → k ≤ 37 → 10 ^ k ≤ 10 ^ 37
tens_le_37 k h = tens_le k 37 h

pub product_le : (a p : ℕ) → a ≤ 2 ^ 63 → p ≤ 10 ^ 18 → a * p ≤ 2 ^ 63 * 10 ^ 18
product_le a p g h = mul-le a p (2 ^ 63) (10 ^ 18) g h

pub product_above_0 : (a p : ℕ) → 0 < a → 0 < p → 0 < a * p
product_above_0 a p g h = mul-le 1 1 a p g h

-- a product by its sign and its magnitude
pub signed_product : (m : ℤ) (p : ℕ) → signed (is_negative m) (unsigned_abs m * p) ≡ m *ℤ pos p
signed_product (pos a) p = grind arith
signed_product (negsuc a) p = grind arith

pub unsigned_abs_above_0 : (m : ℤ) → m ≢ pos 0 → 0 < unsigned_abs m
unsigned_abs_above_0 (pos a) h = let z : a ≢ 0 = λ e. h (ap pos e) in omega arith
unsigned_abs_above_0 (negsuc a) h = omega arith

-- a number that is not 0 passes the test
pub abs_test : (m : ℤ) → m ≢ pos 0 → eqb (unsigned_abs m) 0 ≡ false
abs_test m h = let z = unsigned_abs_above_0 m h in grind (arith, nat_tests)

pub far_below : (m e : ℤ) → lt_z e (pos 0) ≡ true → 18 < unsigned_abs e → None ≡ power_of_ten_times m e
far_below m (pos e) low far = grind arith
far_below m (negsuc e) low far = grind (arith, nat_tests)

pub far_zero : (e : ℤ) → lt_z e (pos 0) ≡ false → limited (pos 0) 0 ≡ power_of_ten_times (pos 0) e
far_zero (pos e) low = ap (λ n. limited (pos n) 0) (sym (zero-mul (10 ^ e)))
far_zero (negsuc e) low = grind arith

power_far : (a p : ℕ) → 0 < a → 10 ^ 19 ≤ p → 2 ^ 63 < a * p
power_far a p g h = let w : 1 * 10 ^ 19 ≤ a * p = mul-le 1 (10 ^ 19) a p g h in omega arith

pub far_above : (m e : ℤ) → m ≢ pos 0 → lt_z e (pos 0) ≡ false → 18 < unsigned_abs e → None ≡ power_of_ten_times m e
far_above (pos a) (pos e) some low far =
    let w = power_far a (10 ^ e) (unsigned_abs_above_0 (pos a) some) (tens_le 19 e (omega arith)) in
    let out : le_z (pos (a * 10 ^ e)) (pos (2 ^ 63 - 1)) ≡ false = grind (arith, nat_tests) in grind (arith, nat_tests)
far_above (negsuc a) (pos e) some low far =
    let w = power_far (suc a) (10 ^ e) (omega arith) (tens_le 19 e (omega arith)) in
    let out : le_z (neg_ℤ (pos (2 ^ 63))) (neg_ℤ (pos (suc a * 10 ^ e)))
    ≡ false = grind (arith, nat_tests, ints) in grind (arith, nat_tests)
far_above m (negsuc e) some low far = grind arith

pub power_below : (m e : ℤ) → lt_z e (pos 0) ≡ true → limited m (unsigned_abs e) ≡ power_of_ten_times m e
power_below m (pos e) low = grind arith
power_below m (negsuc e) low = refl

pub power_above : (m e : ℤ) → lt_z e (pos 0) ≡ false → limited (m *ℤ pos (10 ^ unsigned_abs e)) 0 ≡ power_of_ten_times m e
power_above m (pos e) low = refl
power_above m (negsuc e) low = grind arith
