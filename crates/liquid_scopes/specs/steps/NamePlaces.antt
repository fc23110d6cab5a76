-- The places of one name's frames.
use Rattle.std.specs.Prelude.{◌≡◌, ◌<◌, ◌||◌, ℕ, Option, Some, None, Bool, true, false, nat_eq, nat_lt}
use Rattle.std.specs.Ordering.{nat_cmp}
use Rattle.std.specs.BTreeSet.{BTreeSet, contains}

-- whether there is a place, and it is this one
abbrev pub is_at : Option ℕ → ℕ → Bool
is_at None j = false
is_at (Some i) j = nat_eq j i

-- whether j is the last place, if there is one, or an earlier one
abbrev pub is_place : Option ℕ → BTreeSet ℕ → ℕ → Bool
is_place last earlier j = is_at last j || contains nat_cmp earlier j

-- the last number that passes, if one does
abbrev pub TopOf : (ℕ → Bool) → Option ℕ → Type 0
TopOf P None = (j : ℕ) → P j ≡ false
TopOf P (Some i) = (P i ≡ true) × ((j : ℕ) → i < j → P j ≡ false)

-- whether there is another place, and it is a later one
abbrev pub is_under : ℕ → Option ℕ → Bool
is_under j None = false
is_under j (Some i) = nat_lt j i
