-- The remainder of a division that rounds down.
use Rattle.std.proofs.Common.{◌≡◌, ℕ, ℤ, pos, negsuc, suc, ◌<◌, ◌≤◌, ◌*◌, ◌/◌, ◌^◌, ◌-◌, ◌≤ℤ◌, ◌-ℤ◌, ◌*ℤ◌, true, ap, ◌∙◌, arith}
use Rattle.std.specs.Prelude.{neg_ℤ}
use Rattle.std.specs.Int.Signed.{lt_z}
use Rattle.std.specs.Int.{int_div_euclid, int_rem_euclid}
use Rattle.std.proofs.lemmas.Int.{ints}
use Rattle.std.proofs.lemmas.Nat.{div-add-mod', mul-le}
use Rattle.liquid_decimals.specs.meaning.Arithmetic.{floor_remainder}

pub euclid_rest : (x : ℤ) (d : ℕ) → 0 < d → int_rem_euclid x (pos d) ≡ x -ℤ pos d *ℤ int_div_euclid x (pos d)
euclid_rest x d h = grind (arith, ints)

pub flipped : (a q r : ℤ) (b : ℕ) → r ≡ neg_ℤ a -ℤ pos (suc b) *ℤ q → neg_ℤ r ≡ a -ℤ negsuc b *ℤ q
flipped a q r b e = omega (arith, ints)

-- by a divisor below 0, the remainder is that of the two numbers negated, negated
pub floor_remainder-below : (a : ℤ) (b : ℕ) → neg_ℤ (int_rem_euclid (neg_ℤ a) (pos (suc b))) ≡ floor_remainder a (negsuc b)
floor_remainder-below a b = flipped a _ _ b (euclid_rest (neg_ℤ a) (suc b) (omega arith))

-- the same for a divisor that is known to be below 0
pub floor_remainder-negated : (a b r : ℤ) → lt_z b (pos 0) ≡ true → r ≡ int_rem_euclid (pos 0 -ℤ a) (pos 0 -ℤ b)
    → pos 0 -ℤ r ≡ floor_remainder a b
floor_remainder-negated a (pos b) r low e = grind arith
floor_remainder-negated a (negsuc b) r low e =
    let flip : (z : ℤ) → pos 0 -ℤ z ≡ neg_ℤ z = λ z. omega (arith, ints) in
    let divisor : pos 0 -ℤ negsuc b ≡ pos (suc b) = omega (arith, ints) in
    let rest : r ≡ int_rem_euclid (neg_ℤ a) (pos (suc b)) =
    e ∙ ap (int_rem_euclid (pos 0 -ℤ a)) divisor ∙ ap (λ z. int_rem_euclid z (pos (suc b))) (flip a) in
    flip r ∙ ap neg_ℤ rest ∙ floor_remainder-below a b

-- a quotient is no farther from zero than its dividend
pub div_le : (a u : ℕ) → 0 < u → a / u ≤ a
div_le a u h = let w : a / u * 1 ≤ a / u * u = mul-le (a / u) 1 (a / u) u (omega arith) h in omega (arith, div-add-mod' a u)

pub quotient_below : (x : ℤ) (u : ℕ) → 0 < u → x ≤ℤ pos (2 ^ 63) → int_div_euclid x (pos u) ≤ℤ pos (2 ^ 63)
quotient_below (pos a) u h le = let w = div_le a u h in omega (arith, ints)
quotient_below (negsuc a) u h le = omega (arith, ints)

pub quotient_above : (x : ℤ) (u : ℕ) → 0 < u → neg_ℤ (pos (2 ^ 63 - 1)) ≤ℤ x → neg_ℤ (pos (2 ^ 63 - 1)) ≤ℤ int_div_euclid x (pos u)
quotient_above (pos a) u h le = omega (arith, ints)
quotient_above (negsuc a) u h le = let w = div_le a u h in omega (arith, ints)
