-- The names of an object's members.
use Rattle.std.specs.Prelude.{ℕ, List, [], ◌∷◌}
use Rattle.liquid_value.specs.meaning.Tree.{Members, no_members, member}

-- the names in their order
abbrev pub names : Members → List (List ℕ)
names no_members = []
names (member k t ms) = k ∷ names ms
