-- The remainder of a quotient rounded down.
use Rattle.std.specs.Prelude.{ℤ, pos, negsuc, ◌≤ℤ◌, ◌<ℤ◌}

-- from 0 up to a divisor above 0, and from 0 down to one below 0, without the divisor itself
abbrev pub IsRest : ℤ → ℤ → Type 0
IsRest (pos b) r = (pos 0 ≤ℤ r) × (r <ℤ pos b)
IsRest (negsuc b) r = (negsuc b <ℤ r) × (r ≤ℤ pos 0)
