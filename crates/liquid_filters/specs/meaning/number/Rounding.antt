-- Numbers rounded to tens, hundreds and so on.
use Rattle.std.specs.Prelude.{ℕ, ℤ, pos, negsuc, suc, neg_ℤ, ◌+◌, ◌*◌, ◌/◌, ◌^◌}

-- the multiple of a unit that is nearest to a magnitude; a half is rounded up
abbrev pub nearest_multiple : ℕ → ℕ → ℕ
nearest_multiple unit magnitude = (magnitude + unit / 2) / unit * unit

-- the multiple of a unit that is nearest to a number; a half is rounded away from zero
abbrev pub rounded_to : ℕ → ℤ → ℤ
rounded_to unit (pos n) = pos (nearest_multiple unit n)
rounded_to unit (negsuc n) = neg_ℤ (pos (nearest_multiple unit (suc n)))

-- an integer rounded to that many digits after the point: itself, but by -1 to tens, by -2 to hundreds, and so on
abbrev pub rounded : ℤ → ℤ → ℤ
rounded number (pos digits) = number
rounded number (negsuc digits) = rounded_to (10 ^ suc digits) number
