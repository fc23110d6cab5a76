-- The laws of decimals.
use Rattle.std.proofs.Common.{
  ◌≡◌,
  ℕ,
  zero,
  suc,
  ℤ,
  pos,
  negsuc,
  neg_ℤ,
  ◌+◌,
  ◌-◌,
  ◌*◌,
  ◌/◌,
  ◌%◌,
  ◌^◌,
  ◌<◌,
  ◌≤◌,
  ◌+ℤ◌,
  ◌-ℤ◌,
  ◌*ℤ◌,
  Bool,
  true,
  false,
  ◌&&◌,
  cond,
  leb,
  Some,
  None,
  refl,
  sym,
  ap,
  ◌∙◌,
  arith,
}
use Rattle.std.specs.Prelude.{max, IfSome}
use Rattle.std.proofs.Math.IntN.{+ℤ_comm, *ℤ_comm}
use Rattle.std.proofs.Math.Nat.{mul_assoc, zero-mul}
use Rattle.std.proofs.lemmas.Int.{ints}
use Rattle.std.proofs.lemmas.Nat.{pow-add, div-add-mod', mod_below}
use Rattle.liquid_decimals.specs.meaning.Arithmetic.{mantissa_at, minus, plus, shared_scale, times}
use Rattle.liquid_decimals.specs.meaning.Dec.{Dec, SameValue, is_mantissa, limited}
use Rattle.liquid_decimals.specs.meaning.Rounding.{nearest}
use Rattle.liquid_decimals.proofs.Nearest.{doubled_left}

max_swapped : (s t : ℕ) → max s t ≡ max t s
max_swapped s t = omega arith

pub plus_swapped : (a b : Dec) → plus a b ≡ plus b a
plus_swapped a b =
    ap (λ k. limited (mantissa_at k a +ℤ mantissa_at k b) k) (max_swapped a.1 b.1)
    ∙ ap (λ m. limited m (max b.1 a.1)) (+ℤ_comm (mantissa_at (max b.1 a.1) a) (mantissa_at (max b.1 a.1) b))

scales_swapped : (s t : ℕ) → s + t ≡ t + s
scales_swapped s t = omega arith

pub times_swapped : (a b : Dec) → times a b ≡ times b a
times_swapped a b = ap (λ m. limited m (a.1 + b.1)) (*ℤ_comm a.0 b.0) ∙ ap (limited (b.0 *ℤ a.0)) (scales_swapped a.1 b.1)

pub rest_of_scale : (s k : ℕ) → s ≤ k → k - s + s ≡ k
rest_of_scale s k h = omega arith

pub negated_times : (n q : ℕ) → neg_ℤ (pos n) *ℤ pos q ≡ neg_ℤ (pos (n * q))
negated_times zero q = rw (zero-mul q) refl
negated_times (suc n) q = refl

pub scaled_twice : (m : ℤ) (p q : ℕ) → m *ℤ pos p *ℤ pos q ≡ m *ℤ pos (p * q)
scaled_twice (pos a) p q = ap pos (mul_assoc a p q)
scaled_twice (negsuc a) p q = negated_times (suc a * p) q ∙ ap (λ n. neg_ℤ (pos n)) (mul_assoc (suc a) p q)

pub same_with_more_digits : (d : Dec) (k : ℕ) → d.1 ≤ k → SameValue (mantissa_at k d, k) d
same_with_more_digits d k h =
    scaled_twice d.0 (10 ^ (k - d.1)) (10 ^ d.1)
    ∙ ap (λ p. d.0 *ℤ pos p) (sym (pow-add 10 (k - d.1) d.1) ∙ ap (λ e. 10 ^ e) (rest_of_scale d.1 k h))

-- a rounded quotient is the quotient of the doubled dividend and half a divisor more
pub nearest_from_below : (n d : ℕ) → 0 < d → 2 * (nearest n d * d) ≤ 2 * n + d
nearest_from_below n d h = omega (arith, doubled_left (nearest n d) d, div-add-mod' (2 * n + d) (2 * d))

pub nearest_from_above : (n d : ℕ) → 0 < d → 2 * n + d < 2 * (nearest n d * d) + 2 * d
nearest_from_above n d h =
    omega (arith, doubled_left (nearest n d) d, div-add-mod' (2 * n + d) (2 * d), mod_below (2 * n + d) (2 * d) (omega arith))

no_rest : (k : ℕ) → k - k ≡ 0
no_rest k = omega arith

once : (n : ℕ) → n * 1 ≡ n
once n = omega arith

unscaled : (m : ℤ) → m *ℤ pos 1 ≡ m
unscaled (pos a) = ap pos (once a)
unscaled (negsuc a) = ap (λ n. neg_ℤ (pos n)) (once (suc a))

-- the mantissa of a decimal in its own scale
own_scale : (m : ℤ) (k : ℕ) → mantissa_at k (m, k) ≡ m
own_scale m k = ap (λ e. m *ℤ pos (10 ^ e)) (no_rest k) ∙ unscaled m

restored : (x y : ℤ) → x -ℤ y +ℤ y ≡ x
restored x y = omega (arith, ints)

greater_is : (k t : ℕ) → t ≤ k → max k t ≡ k
greater_is k t h = omega arith

added_back : (k : ℕ) (a b : Dec) → b.1 ≤ k → plus (mantissa_at k a -ℤ mantissa_at k b, k) b ≡ limited (mantissa_at k a) k
added_back k a b h =
    let m = mantissa_at k a -ℤ mantissa_at k b in
    ap (λ j. limited (mantissa_at j (m, k) +ℤ mantissa_at j b) j) (greater_is k b.1 h)
    ∙ ap (λ x. limited (x +ℤ mantissa_at k b) k) (own_scale m k)
    ∙ ap (λ x. limited x k) (restored (mantissa_at k a) (mantissa_at k b))

by_test : (t : Bool) (k : ℕ) (a b : Dec) → b.1 ≤ k
    → IfSome (cond t (Some (mantissa_at k a -ℤ mantissa_at k b, k)) None) (λ rest. plus rest b ≡ limited (mantissa_at k a) k)
by_test true k a b h = added_back k a b h
by_test false k a b h = tt

at_most_greater : (s t : ℕ) → t ≤ max s t
at_most_greater s t = omega arith

pub taken_and_added : (a b : Dec) → IfSome (minus a b) (λ rest. plus rest b ≡ limited (mantissa_at (shared_scale a b) a) (shared_scale a b))
taken_and_added a b =
    let k = shared_scale a b in
    by_test (leb k 18 && is_mantissa (mantissa_at k a -ℤ mantissa_at k b)) k a b (at_most_greater a.1 b.1)
