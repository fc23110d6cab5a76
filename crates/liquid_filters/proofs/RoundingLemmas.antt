-- Rounding to a unit that is far greater than the number.
use Rattle.std.proofs.Common.{
  ◌≡◌,
  ℕ,
  ℤ,
  pos,
  negsuc,
  suc,
  ◌+◌,
  ◌*◌,
  ◌^◌,
  ◌<◌,
  ◌≤◌,
  FitsSigned,
  w64,
  true,
  unsigned_abs,
  Option,
  None,
  refl,
  sym,
  ap,
  arith,
}
use Rattle.std.specs.Prelude.{neg_ℤ}
use Rattle.std.specs.Int.Signed.{lt_z}
use Rattle.std.proofs.Math.Nat.{pow-le-pow_right}
use Rattle.std.proofs.lemmas.Bool.Decides.{nat_tests}
use Rattle.liquid_decimals.specs.meaning.Dec.{Dec}
use Rattle.liquid_decimals.specs.meaning.Rounding.{round}
use Rattle.liquid_filters.specs.meaning.value.Decimals.{is_whole}
use Rattle.liquid_filters.specs.meaning.value.Numbers.{fits, limited}
use Rattle.liquid_filters.specs.meaning.number.Filters.{rounded_number}
use Rattle.liquid_filters.specs.meaning.number.Rounding.{nearest_multiple, rounded, rounded_to}

-- the multiple nearest to a magnitude below half the unit is 0
nearest_multiple-none : (unit m : ℕ) → 2 * m + 1 < unit → nearest_multiple unit m ≡ 0
nearest_multiple-none unit m h = grind arith

rounded_to-none : (unit : ℕ) (n : ℤ) → FitsSigned w64 n → 10 ^ 20 ≤ unit → pos 0 ≡ rounded_to unit n
rounded_to-none unit (pos m) fits h = ap pos (sym (nearest_multiple-none unit m (omega (arith, fits.sfits))))
rounded_to-none unit (negsuc m) fits h = ap (λ k. neg_ℤ (pos k)) (sym (nearest_multiple-none unit (suc m) (omega (arith, fits.sfits))))

-- past 19 digits before the point, no number reaches half the unit
pub rounded-none : (n d : ℤ) → FitsSigned w64 n → lt_z d (pos 0) ≡ true → 19 < unsigned_abs d → pos 0 ≡ rounded n d
rounded-none n (pos d) fits low far = grind arith
rounded-none n (negsuc d) fits low far =
    rounded_to-none (10 ^ suc d) n fits (let far_enough : 20 ≤ suc d = omega arith in pow-le-pow_right (omega arith) far_enough)

-- no decimal has more than 18 digits after the point
pub round_past : (s : ℕ) (d : Dec) → 18 < s → None ≡ round s d
round_past s d h = grind (arith, nat_tests)

-- a decimal without digits after the point is rounded as an integer
pub whole_rounded : (d : Dec) (n : ℤ) → is_whole d ≡ true → rounded_number d n ≡ limited (fits (rounded d.0 n))
whole_rounded d n h = rw h refl
