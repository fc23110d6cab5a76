-- Results by the mantissas at a shared scale.
use Rattle.std.proofs.Common.{◌≡◌, ◌≢◌, ℕ, ℤ, pos, refl, ◌+ℤ◌, ◌-ℤ◌}
use Rattle.std.specs.Prelude.{max}
use Rattle.liquid_decimals.specs.meaning.Dec.{Dec, limited}
use Rattle.liquid_decimals.specs.meaning.Arithmetic.{floor_remainder, mantissa_at, minus, modulo, plus}
use Rattle.liquid_decimals.proofs.Tens.{abs_test}

pub plus_by : (a b : Dec) (k : ℕ) (x y z : ℤ) → k ≡ max a.1 b.1 → x ≡ mantissa_at k a → y ≡ mantissa_at k b → z ≡ x +ℤ y
    → limited z k ≡ plus a b
plus_by a b k x y z h e f g = rw (g, e, f, h)

pub minus_by : (a b : Dec) (k : ℕ) (x y z : ℤ) → k ≡ max a.1 b.1 → x ≡ mantissa_at k a → y ≡ mantissa_at k b → z ≡ x -ℤ y
    → limited z k ≡ minus a b
minus_by a b k x y z h e f g = rw (g, e, f, h)

pub modulo_by : (a b : Dec) (k : ℕ) (x y z : ℤ) → b.0 ≢ pos 0 → k ≡ max a.1 b.1 → x ≡ mantissa_at k a → y ≡ mantissa_at k b
    → z ≡ floor_remainder x y → limited z k ≡ modulo a b
modulo_by a b k x y z some h e f g = rw (g, e, f, h, abs_test b.0 some) refl
