-- Steps of a sum of decimals.
use Rattle.std.proofs.Common.{
  ◌≡◌,
  ℕ,
  ℤ,
  pos,
  negsuc,
  suc,
  ◌-◌,
  ◌*◌,
  ◌*ℤ◌,
  ◌+ℤ◌,
  ◌<ℤ◌,
  ◌≤ℤ◌,
  ◌^◌,
  ◌≤◌,
  neg_ℤ,
  List,
  [],
  ◌∷◌,
  ◌++◌,
  refl,
  ap,
  ◌∙◌,
  arith,
}
use Rattle.std.specs.Prelude.{max, reverse}
use Rattle.std.proofs.lemmas.List.{reverse-append}
use Rattle.std.specs.Int.{int_div_euclid, int_rem_euclid}
use Rattle.std.proofs.lemmas.Int.{ints}
use Rattle.liquid_decimals.proofs.FloorLemmas.{euclid_rest}
use Rattle.liquid_decimals.proofs.Tens.{product_le}
use Rattle.liquid_decimals.specs.meaning.Arithmetic.{mantissa_at}
use Rattle.liquid_decimals.specs.meaning.Dec.{Dec, limited}
use Rattle.liquid_filters.specs.meaning.list.DecimalSums.{greatest_scale, sum_at, sum_of}

pub product_below : (m : ℤ) (p : ℕ) → m ≤ℤ pos (2 ^ 63 - 1) → p ≤ 10 ^ 18 → (m *ℤ pos p) ≤ℤ pos (2 ^ 124)
product_below (pos a) p h g = let w = product_le a p (omega (arith, ints)) g in omega (arith, ints)
product_below (negsuc a) p h g = omega (arith, ints)

pub product_above : (m : ℤ) (p : ℕ) → neg_ℤ (pos (2 ^ 63)) ≤ℤ m → p ≤ 10 ^ 18 → neg_ℤ (pos (2 ^ 124)) ≤ℤ (m *ℤ pos p)
product_above (pos a) p h g = omega (arith, ints)
product_above (negsuc a) p h g = let w = product_le (suc a) p (omega (arith, ints)) g in omega (arith, ints)

pub parts_add_up : (x : ℤ) → int_div_euclid x (pos (2 ^ 62)) *ℤ pos (2 ^ 62) +ℤ int_rem_euclid x (pos (2 ^ 62)) ≡ x
parts_add_up x = let rest = euclid_rest x (2 ^ 62) (omega arith) in omega (arith, ints)

pub rest_above : (x : ℤ) → pos 0 ≤ℤ int_rem_euclid x (pos (2 ^ 62))
rest_above (pos a) = omega (arith, ints)
rest_above (negsuc a) = omega (arith, ints)

pub rest_below : (x : ℤ) → int_rem_euclid x (pos (2 ^ 62)) <ℤ pos (2 ^ 62)
rest_below (pos a) = omega (arith, ints)
rest_below (negsuc a) = omega (arith, ints)

-- the parts of the first mantissa move from what is left to the sums of parts
pub parts_moved : (total u l m rest more_u more_l u' l' : ℤ) → total ≡ u *ℤ pos (2 ^ 62) +ℤ l +ℤ (m +ℤ rest)
    → more_u *ℤ pos (2 ^ 62) +ℤ more_l ≡ m → u' ≡ u +ℤ more_u → l' ≡ l +ℤ more_l → total ≡ u' *ℤ pos (2 ^ 62) +ℤ l' +ℤ rest
parts_moved total u l m rest more_u more_l u' l' h parts e f = omega (arith, ints)

-- at the end the lower sum is carried over
pub parts_joined : (total u l carry rest u' rest' : ℤ) → total ≡ u *ℤ pos (2 ^ 62) +ℤ l +ℤ pos 0
    → carry *ℤ pos (2 ^ 62) +ℤ rest ≡ l → u' ≡ u +ℤ carry → rest' ≡ rest → u' *ℤ pos (2 ^ 62) +ℤ rest' ≡ total
parts_joined total u l carry rest u' rest' h parts e f = omega (arith, ints)

-- the greatest scale and the sum are the same from the last decimal to the first
greatest_scale-last : (d : Dec) (ds : List Dec) → greatest_scale (ds ++ d ∷ []) ≡ max d.1 (greatest_scale ds)
greatest_scale-last d [] = refl
greatest_scale-last d (e ∷ ds) = let rest = greatest_scale-last d ds in omega arith

greatest_scale-reverse : (ds : List Dec) → greatest_scale (reverse ds) ≡ greatest_scale ds
greatest_scale-reverse [] = refl
greatest_scale-reverse (d ∷ ds) =
    ap greatest_scale (reverse-append (d ∷ []) ds) ∙ greatest_scale-last d (reverse ds) ∙ ap (max d.1) (greatest_scale-reverse ds)

moved_front : (last first rest : ℤ) → first +ℤ (last +ℤ rest) ≡ last +ℤ (first +ℤ rest)
moved_front last first rest = omega (arith, ints)

sum_at-last : (k : ℕ) (d : Dec) (ds : List Dec) → sum_at k (ds ++ d ∷ []) ≡ mantissa_at k d +ℤ sum_at k ds
sum_at-last k d [] = refl
sum_at-last k d (e ∷ ds) =
    ap (λ rest. mantissa_at k e +ℤ rest) (sum_at-last k d ds) ∙ moved_front (mantissa_at k d) (mantissa_at k e) (sum_at k ds)

sum_at-reverse : (k : ℕ) (ds : List Dec) → sum_at k (reverse ds) ≡ sum_at k ds
sum_at-reverse k [] = refl
sum_at-reverse k (d ∷ ds) =
    ap (sum_at k) (reverse-append (d ∷ []) ds) ∙ sum_at-last k d (reverse ds)
    ∙ ap (λ rest. mantissa_at k d +ℤ rest) (sum_at-reverse k ds)

pub sum_of_reverse : (ds : List Dec) → sum_of (reverse ds) ≡ sum_of ds
sum_of_reverse ds =
    ap (λ k. limited (sum_at k (reverse ds)) k) (greatest_scale-reverse ds)
    ∙ ap (λ m. limited m (greatest_scale ds)) (sum_at-reverse (greatest_scale ds) ds)
