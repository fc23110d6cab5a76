-- The tree that a value means.
use Rattle.std.specs.Prelude.{ℕ, List, [], ◌∷◌, map, String, string_bytes}
use Rattle.std.specs.declared.alloc.Global.{Global}
use Rattle.liquid_scalar.specs.meaning.Scalar.{scal}
use Rattle.liquid_value.specs.declared.value.Value.{Value, fold-Value}
use Rattle.liquid_value.specs.declared.shared_array.SharedArray.TheOpen.{Value-F, SharedArray-F, SharedObject-F}
use Rattle.liquid_value.specs.declared.shared_array.SharedArray.{SharedArray, fold-SharedArray}
use Rattle.liquid_value.specs.declared.shared_object.SharedObject.{SharedObject, fold-SharedObject}
use Rattle.liquid_value.specs.meaning.Tree.{Tree, nil, state, scalar, array, object, Items, no_items, item, Members, no_members, member}

-- the items of a list
abbrev pub items_of : List Tree → Items
items_of [] = no_items
items_of (t ∷ ts) = item t (items_of ts)

-- the members of a list of entries
abbrev pub members_of : List (String Global × Tree) → Members
members_of [] = no_members
members_of (e ∷ es) = member (string_bytes e.0) e.1 (members_of es)

-- one level of a value, with each value inside already given as its tree
abbrev pub view_step : Value-F Items Members Tree → Tree
view_step (Value-F.Scalar s) = scalar (scal string_bytes s)
view_step (Value-F.Array a) = array a
view_step (Value-F.Object o) = object o
view_step (Value-F.State s) = state s
view_step Value-F.Nil = nil

-- .. of the list that a value holds, its own or a shared one
abbrev pub array_step : SharedArray-F Items Members Tree → Items
array_step (SharedArray-F.SharedArray::Own v) = items_of v.items
array_step (SharedArray-F.SharedArray::Shared r) = items_of r.value.items

-- .. and of the map that a value holds, its own or a shared one
abbrev pub object_step : SharedObject-F Items Members Tree → Members
object_step (SharedObject-F.SharedObject::Own m) = members_of m.entries
object_step (SharedObject-F.SharedObject::Shared r) = members_of r.value.entries

-- the tree that a value means
abbrev pub view : Value → Tree
view = fold-Value Items Members Tree array_step object_step view_step

-- the items of the array that a value holds
abbrev pub array_view : SharedArray → Items
array_view = fold-SharedArray Items Members Tree array_step object_step view_step

-- the members of the object that a value holds
abbrev pub object_view : SharedObject → Members
object_view = fold-SharedObject Items Members Tree array_step object_step view_step

-- the items that a list of values means
abbrev pub items_view : List Value → Items
items_view vs = items_of (map view vs)

-- the members that a map's entries mean
abbrev pub members_view : List (String Global × Value) → Members
members_view es = members_of (map (λ e. (e.0, view e.1)) es)

-- the name and the tree of an entry
abbrev pub entry_view : String Global × Value → List ℕ × Tree
entry_view e = (string_bytes e.0, view e.1)
