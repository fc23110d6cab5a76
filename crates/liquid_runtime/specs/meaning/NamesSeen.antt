-- The names that a view shows, and what each gives.
use Rattle.std.specs.Prelude.{ℕ, List, Bool, true, false, is_none, ◌&&◌, Option, unwrap_or, cond}
use Rattle.std.specs.FinMap.{empty, get}
use Rattle.liquid_value.specs.meaning.Tree.{Tree}
use Rattle.liquid_runtime.specs.meaning.Maps.{Names, over}
use Rattle.liquid_runtime.specs.meaning.View.{View, Floor, unsealed, sealed}

-- what is assigned, if it is seen
abbrev pub shown_globals : {Reg : Type 0} → View Reg → Names
shown_globals v = cond v.shown (unwrap_or v.globals empty) empty

-- the names above the floor: a nearer layer's value hides those of the layers below
abbrev pub upper_names : {Reg : Type 0} → View Reg → Names
upper_names v = over v.locals (over (shown_globals v) v.base)

-- the names of the floor: the index variables, unless it is sealed
abbrev pub names_of_floor : Option Names → Floor → Names
names_of_floor index unsealed = unwrap_or index empty
names_of_floor index (sealed names) = names

abbrev pub floor_names : {Reg : Type 0} → View Reg → Names
floor_names v = names_of_floor v.index v.floor

-- all names with their values
abbrev pub names_seen : {Reg : Type 0} → View Reg → Names
names_seen v = over (upper_names v) (floor_names v)

-- the value of a name
abbrev pub lookup : {Reg : Type 0} → View Reg → List ℕ → Option Tree
lookup v name = get (names_seen v) name

-- whether the floor is sealed
abbrev pub is_sealed : Floor → Bool
is_sealed unsealed = false
is_sealed (sealed names) = true

-- whether a name that is seen is the own name of a sandboxed frame
abbrev pub comes_from_seal : {Reg : Type 0} → View Reg → List ℕ → Bool
comes_from_seal v name = is_sealed v.floor && is_none (get (upper_names v) name)
