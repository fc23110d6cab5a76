-- The trees of options, of lists and of maps, from the trees of what they hold.
use Rattle.std.specs.Prelude.{ℕ, List, [], ◌∷◌, Option, None, Some, map}
use Rattle.liquid_value.specs.meaning.Tree.{Tree, nil, Items, Members, no_members, member}
use Rattle.liquid_value.specs.meaning.View.{items_of}

-- an absent value is nil
abbrev pub option_tree : {T : Type 0} → (T → Tree) → Option T → Tree
option_tree tree None = nil
option_tree tree (Some x) = tree x

-- the items of a list
abbrev pub items_by : {T : Type 0} → (T → Tree) → List T → Items
items_by tree xs = items_of (map tree xs)

-- the members of a map's entries, in their order, from the texts of the keys and the trees of the values
abbrev pub members_by : {K V : Type 0} → (K → List ℕ) → (V → Tree) → List (K × V) → Members
members_by index tree [] = no_members
members_by index tree (e ∷ es) = member (index e.0) (tree e.1) (members_by index tree es)
