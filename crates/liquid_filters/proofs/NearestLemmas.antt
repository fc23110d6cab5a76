-- The multiple that a number is rounded to is a nearest one.
use Rattle.std.proofs.Common.{
  ◌≡◌,
  ℕ,
  ℤ,
  pos,
  negsuc,
  suc,
  ◌+◌,
  ◌*◌,
  ◌/◌,
  ◌^◌,
  ◌<◌,
  ◌≤◌,
  ◌+ℤ◌,
  ◌*ℤ◌,
  ◌<ℤ◌,
  ◌≤ℤ◌,
  neg_ℤ,
  refl,
  sym,
  subst,
  arith,
}
use Rattle.std.specs.declared.cmp.Ordering.{Ordering}
use Rattle.std.specs.declared.cmp.Ordering.TheVariants.{Less, Equal, Greater}
use Rattle.std.specs.Cmp.{int_ranks}
use Rattle.std.specs.Ordering.{MatchOrdering, int_cmp}
use Rattle.std.proofs.Math.Nat.{one-le-pow}
use Rattle.liquid_decimals.proofs.LawProofs.{negated_times}
use Rattle.std.proofs.lemmas.Int.{ints}
use Rattle.std.proofs.lemmas.Nat.{div-add-mod', mod_below, mul-le}
use Rattle.liquid_filters.specs.meaning.number.Rounding.{nearest_multiple, rounded, rounded_to}
use Rattle.liquid_filters.specs.laws.number.Rounding.{IsNearestMultiple, distance}

-- multiples of one unit are a unit apart
next_multiple : (a b u : ℕ) → a < b → a * u + u ≤ b * u
next_multiple a b u h = let w : suc a * u ≤ b * u = mul-le (suc a) u b u (omega arith) (omega arith) in omega arith

apart : (k q : ℤ) (u : ℕ) → k <ℤ q → (k *ℤ pos u +ℤ pos u) ≤ℤ (q *ℤ pos u)
apart (pos a) (pos b) u h = let w = next_multiple a b u (omega (arith, ints)) in omega (arith, ints)
apart (pos a) (negsuc b) u h = absurd (omega (arith, ints))
apart (negsuc a) (pos b) u h = let w : suc a * u ≡ a * u + u = omega arith in omega (arith, ints)
apart (negsuc a) (negsuc b) u h = let w = next_multiple (suc b) (suc a) u (omega (arith, ints)) in omega (arith, ints)

-- a multiple that is at most half a unit away is a nearest one
half_away : (n m p : ℤ) (u h : ℕ) → 2 * h ≤ u → n ≤ℤ (m +ℤ pos h) → m ≤ℤ (n +ℤ pos h) → (p +ℤ pos u) ≤ℤ m → distance n m ≤ distance n p
half_away n m p u h half above below far = omega (arith, ints)

half_away_up : (n m p : ℤ) (u h : ℕ) → 2 * h ≤ u → n ≤ℤ (m +ℤ pos h) → m ≤ℤ (n +ℤ pos h) → (m +ℤ pos u) ≤ℤ p → distance n m ≤ distance n p
half_away_up n m p u h half above below far = omega (arith, ints)

up_to_order : (n q k : ℤ) (u h : ℕ) (r : Ordering) → 2 * h ≤ u → n ≤ℤ ((q *ℤ pos u) +ℤ pos h) → (q *ℤ pos u) ≤ℤ (n +ℤ pos h)
    → MatchOrdering r (k <ℤ q) (k ≡ q) (q <ℤ k) → distance n (q *ℤ pos u) ≤ distance n (k *ℤ pos u)
up_to_order n q k u h Less half above below less = half_away n (q *ℤ pos u) (k *ℤ pos u) u h half above below (apart k q u less)
up_to_order n q k u h Equal half above below same =
    subst (λ z. distance n (q *ℤ pos u) ≤ distance n (z *ℤ pos u)) (sym same) (omega arith)
up_to_order n q k u h Greater half above below more = half_away_up n (q *ℤ pos u) (k *ℤ pos u) u h half above below (apart q k u more)

by_half : (n q : ℤ) (u h : ℕ) → 2 * h ≤ u → n ≤ℤ ((q *ℤ pos u) +ℤ pos h) → (q *ℤ pos u) ≤ℤ (n +ℤ pos h)
    → IsNearestMultiple u n (q *ℤ pos u)
by_half n q u h half above below = ((q, refl), λ k. up_to_order n q k u h (int_cmp k q) half above below (int_ranks k q))

half_of : (u : ℕ) → 2 * (u / 2) ≤ u
half_of u = omega arith

from_above : (a u : ℕ) → 0 < u → a ≤ nearest_multiple u a + u / 2
from_above a u some =
    let w = mod_below (a + u / 2) u some in
    let v = div-add-mod' (a + u / 2) u in omega arith

from_below : (a u : ℕ) → 0 < u → nearest_multiple u a ≤ a + u / 2
from_below a u some = let v = div-add-mod' (a + u / 2) u in omega arith

rounded_to_nearest : (u : ℕ) (n : ℤ) → 0 < u → IsNearestMultiple u n (rounded_to u n)
rounded_to_nearest u (pos a) some =
    let low = from_above a u some in
    let high = from_below a u some in
    by_half (pos a) (pos ((a + u / 2) / u)) u (u / 2) (half_of u) (omega (arith, ints)) (omega (arith, ints))
rounded_to_nearest u (negsuc a) some =
    let low = from_above (suc a) u some in
    let high = from_below (suc a) u some in
    let q = (suc a + u / 2) / u in
    let same = negated_times q u in
    subst (IsNearestMultiple u (negsuc a)) same
    (by_half (negsuc a) (neg_ℤ (pos q)) u (u / 2) (half_of u) (omega (arith, ints)) (omega (arith, ints)))

pub rounded_nearest : (n : ℤ) (power : ℕ) → IsNearestMultiple (10 ^ suc power) n (rounded n (negsuc power))
rounded_nearest n power = rounded_to_nearest (10 ^ suc power) n (omega (arith, one-le-pow (suc power) 10 (omega arith)))
