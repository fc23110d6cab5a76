-- Finite maps from names, as their bytes, and one map laid over another.
use Rattle.std.specs.Prelude.{◌++◌, String, map, string_bytes}
use Rattle.std.specs.Ordering.{nat_cmp}
use Rattle.std.specs.Cmp.Lexicographic.{slice_cmp}
use Rattle.std.specs.BTreeMap.{BTreeMap}
use Rattle.std.specs.FinMap.{FinMap, entries, from_entries}
use Rattle.std.specs.declared.alloc.Global.{Global}
use Rattle.liquid_value.specs.meaning.Tree.{Tree}
use Rattle.liquid_value.specs.meaning.View.{view}
use Rattle.liquid_value.specs.declared.value.Value.{Value}

-- a finite map from names to what they mean
abbrev pub NameMap : Type 0 → Type 0
NameMap X = FinMap (slice_cmp nat_cmp) X

-- the values of names
abbrev pub Names : Type 0
Names = NameMap Tree

-- the names of an object, each with what its value means
unfoldable pub names_of : BTreeMap (String Global) Value → Names
names_of object = from_entries (map (λ entry. (string_bytes entry.0, view entry.1)) object.entries)

-- the names of both maps; where both have a name, the value of the left one
unfoldable pub over : {X : Type 0} → NameMap X → NameMap X → NameMap X
over front back = from_entries (entries front ++ entries back)
