-- Rounding to the nearest multiple.
use Rattle.std.specs.Prelude.{◌≡◌, ◌≤◌, ℕ, ℤ, pos, ◌-ℤ◌, ◌*ℤ◌, unsigned_abs}

-- how far two numbers are from each other
abbrev pub distance : ℤ → ℤ → ℕ
distance a b = unsigned_abs (a -ℤ b)

-- a multiple of a unit, where no other one is nearer to a number
abbrev pub IsNearestMultiple : ℕ → ℤ → ℤ → Type 0
IsNearestMultiple unit n m = ((k : ℤ) × (m ≡ k *ℤ pos unit)) × ((k : ℤ) → distance n m ≤ distance n (k *ℤ pos unit))
