-- The order of numbers is total: that of their mantissas at one scale.
use Rattle.std.proofs.Common.{◌≡◌, ℕ, ℤ, pos, negsuc, suc, ◌+◌, ◌-◌, ◌*◌, ◌*ℤ◌, ◌^◌, ◌<◌}
use Rattle.std.proofs.Common.{◌≤◌, ◌<ℤ◌, Option, Some, None, refl, sym, ap, ◌∙◌, subst, arith}
use Rattle.std.specs.declared.cmp.Ordering.{Ordering}
use Rattle.std.specs.declared.cmp.Ordering.TheVariants.{Less, Equal, Greater}
use Rattle.std.specs.Option.{option_map}
use Rattle.std.specs.Ordering.{MatchOrdering, nat_cmp, int_cmp, then_cmp, on}
use Rattle.std.specs.Cmp.{IsTotalOrder, nat_cmp_total, int_cmp_total, int_cmp_is, int_ranks, on_total, then_total}
use Rattle.std.proofs.Math.Nat.{mul_assoc, mul_comm, mul-lt-mul_of_pos_right}
use Rattle.std.proofs.lemmas.Nat.{pow-add}
use Rattle.std.proofs.lemmas.Int.{ints}
use Rattle.liquid_decimals.specs.declared.decimal.Decimal.{Decimal}
use Rattle.liquid_decimals.specs.meaning.Arithmetic.{compare, mantissa_at}
use Rattle.liquid_decimals.specs.meaning.Dec.{Dec, dec}
use Rattle.liquid_decimals.proofs.LawProofs.{scaled_twice}
use Rattle.liquid_decimals.proofs.Tens.{product_above_0, tens_above_0}
use Rattle.liquid_filters.specs.meaning.sort.Numbers.{number_cmp}

-- a positive factor does not change an order
scaled_lt : (x y : ℤ) (k : ℕ) → 0 < k → x <ℤ y → (x *ℤ pos k) <ℤ (y *ℤ pos k)
scaled_lt (pos a) (pos b) k above h =
    let w = mul-lt-mul_of_pos_right {m = a} {n = b} {k = k} (omega (arith, ints)) above in omega (arith, ints)
scaled_lt (pos a) (negsuc b) k above h = absurd (omega (arith, ints))
scaled_lt (negsuc a) (pos b) k above h = let w = product_above_0 (suc a) k (omega arith) above in omega (arith, ints)
scaled_lt (negsuc a) (negsuc b) k above h =
    let w = mul-lt-mul_of_pos_right {m = suc b} {n = suc a} {k = k} (omega (arith, ints)) above in omega (arith, ints)

MatchOrdering-map : (r : Ordering) {A B C A' B' C' : Type 0} → (A → A') → (B → B') → (C → C') → MatchOrdering r A B C
    → MatchOrdering r A' B' C'
MatchOrdering-map Less f g h m = f m
MatchOrdering-map Equal f g h m = g m
MatchOrdering-map Greater f g h m = h m

scaled_cmp : (x y : ℤ) (k : ℕ) → 0 < k → int_cmp x y ≡ int_cmp (x *ℤ pos k) (y *ℤ pos k)
scaled_cmp x y k above =
    int_cmp_is (x *ℤ pos k) (y *ℤ pos k) (int_cmp x y)
    (MatchOrdering-map (int_cmp x y) (scaled_lt x y k above) (ap (λ z. z *ℤ pos k)) (scaled_lt y x k above) (int_ranks x y))

-- the powers of ten that the sides of a comparison are multiplied with
both : ℕ → ℕ → ℕ
both s t = 10 ^ (18 - s) * 10 ^ (18 - t)

rest_of_18 : (t : ℕ) → t ≤ 18 → 18 ≡ t + (18 - t)
rest_of_18 t h = omega arith

swapped_front : (p q r : ℕ) → p * (q * r) ≡ q * (p * r)
swapped_front p q r = sym (mul_assoc p q r) ∙ ap (λ m. m * r) (mul_comm p q) ∙ mul_assoc q p r

powers : (s t : ℕ) → t ≤ 18 → 10 ^ (18 - s) * 10 ^ 18 ≡ 10 ^ t * both s t
unfolding both
powers s t h =
    ap (λ e. 10 ^ (18 - s) * 10 ^ e) (rest_of_18 t h) ∙ ap (λ p. 10 ^ (18 - s) * p) (pow-add 10 t (18 - t))
    ∙ swapped_front (10 ^ (18 - s)) (10 ^ t) (10 ^ (18 - t))

both_above_0 : (s t : ℕ) → 0 < both s t
unfolding both
both_above_0 s t = product_above_0 (10 ^ (18 - s)) (10 ^ (18 - t)) (tens_above_0 (18 - s)) (tens_above_0 (18 - t))

both_swapped : (s t : ℕ) → both s t ≡ both t s
unfolding both
both_swapped s t = mul_comm (10 ^ (18 - s)) (10 ^ (18 - t))

-- a side of a comparison, multiplied with these powers
side : (m : ℤ) (s t : ℕ) → t ≤ 18 → m *ℤ pos (10 ^ t) *ℤ pos (both s t) ≡ m *ℤ pos (10 ^ (18 - s)) *ℤ pos (10 ^ 18)
side m s t h =
    scaled_twice m (10 ^ t) (both s t) ∙ ap (λ p. m *ℤ pos p) (sym (powers s t h)) ∙ sym (scaled_twice m (10 ^ (18 - s)) (10 ^ 18))

compare-is : (a b : Dec) → a.1 ≤ 18 → b.1 ≤ 18 → compare a b ≡ int_cmp (mantissa_at 18 a) (mantissa_at 18 b)
compare-is a b h g =
    let left = a.0 *ℤ pos (10 ^ b.1) in
    let right = b.0 *ℤ pos (10 ^ a.1) in
    scaled_cmp left right (both a.1 b.1) (both_above_0 a.1 b.1)
    ∙ ap (λ x. int_cmp x (right *ℤ pos (both a.1 b.1))) (side a.0 a.1 b.1 g)
    ∙ ap (λ x. int_cmp (mantissa_at 18 a *ℤ pos (10 ^ 18)) x)
    (ap (λ k. right *ℤ pos k) (both_swapped a.1 b.1) ∙ side b.0 b.1 a.1 h)
    ∙ sym (scaled_cmp (mantissa_at 18 a) (mantissa_at 18 b) (10 ^ 18) (tens_above_0 18))

-- a number is before none
abbrev place : Option Decimal → ℕ
place (Some d) = 0
place None = 1

abbrev units : Option Decimal → ℤ
units (Some d) = mantissa_at 18 (dec d)
units None = pos 0

abbrev unit_cmp : Option Decimal → Option Decimal → Ordering
unit_cmp = then_cmp (on place nat_cmp) (on units int_cmp)

unit_cmp_total : IsTotalOrder unit_cmp
unit_cmp_total = then_total (on_total place nat_cmp_total) (on_total units int_cmp_total)

abbrev pub decimal_cmp : Option Decimal → Option Decimal → Ordering
decimal_cmp a b = number_cmp (option_map dec a) (option_map dec b)

decimal_cmp-units : (a b : Option Decimal) → decimal_cmp a b ≡ unit_cmp a b
decimal_cmp-units (Some a) (Some b) = compare-is (dec a) (dec b) a.limited b.limited
decimal_cmp-units (Some a) None = refl
decimal_cmp-units None (Some b) = refl
decimal_cmp-units None None = refl

pub decimal_cmp_total : IsTotalOrder decimal_cmp
decimal_cmp_total = subst IsTotalOrder (λ i x y. sym (decimal_cmp-units x y) i) unit_cmp_total
