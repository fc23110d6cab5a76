-- A set of names, as the names of a map.
use Rattle.std.specs.Prelude.{◌≡◌, ℕ, List, String, is_some}
use Rattle.std.specs.Prelude.{◌||◌}
use Rattle.std.specs.BTreeSet.{BTreeSet, contains_text}
use Rattle.std.specs.FinMap.{get}
use Rattle.std.specs.declared.alloc.Global.{Global}
use Rattle.liquid_runtime.specs.meaning.Maps.{Names}

-- the set has exactly the names that the map has
abbrev pub NamesOf : Names → BTreeSet (String Global) → Type 0
NamesOf m set = (q : List ℕ) → contains_text set q ≡ is_some (get m q)

-- the set has the names of the map and those of the other set
abbrev pub NamesOver : Names → BTreeSet (String Global) → BTreeSet (String Global) → Type 0
NamesOver m below set = (q : List ℕ) → contains_text set q ≡ (is_some (get m q) || contains_text below q)
