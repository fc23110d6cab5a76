-- The places of a fraction, one at a time.
use Rattle.std.proofs.Common.{◌≡◌, ℕ, zero, suc, ◌+◌, ◌*◌, ◌/◌, ◌%◌, ◌^◌, [], ◌∷◌, refl, ◌∙◌, arith, eq-eqb, ne_eqb}
use Rattle.std.proofs.Math.Nat.{pow-suc}
use Rattle.liquid_dates.specs.meaning.Printed.{fraction_digits}

tenth : (k j : ℕ) → k ≡ suc j → 10 ^ k ≡ 10 * 10 ^ j
tenth k j e = rw e (omega (arith, pow-suc 10 j))

-- nothing is left after the last place that is not 0
pub fraction_digits_last : (k n place : ℕ) → place ≡ 10 ^ k → n % place ≡ 0 → fraction_digits (suc k) n ≡ (48 + n / place) ∷ []
unfolding fraction_digits
fraction_digits_last k n place e none = rw (← e) (rw (eq-eqb _ _ none))

-- if something is left, there is a place for it
pub fraction_digits_more : (k n place : ℕ) → place ≡ 10 ^ k → (n % place ≡ 0 → ⊥)
    → (j : ℕ) × (place ≡ 10 * 10 ^ j) × (fraction_digits (suc k) n ≡ (48 + n / place) ∷ fraction_digits (suc j) (n % place))
unfolding fraction_digits
fraction_digits_more zero n place e some = absurd (some (rw e (omega arith)))
fraction_digits_more (suc j) n place e some = (j, e ∙ tenth (suc j) j refl, rw (← e) (rw (ne_eqb _ _ some)))
