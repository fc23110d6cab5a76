-- The items of a value, as the filters on lists take them.
use Rattle.std.specs.Prelude.{List, [], ◌∷◌, ◌++◌}
use Rattle.liquid_value.specs.meaning.Tree.{Tree, nil, state, scalar, array, object, Items, no_items, item}

-- an item itself, or for an array among the items its own items, at every depth
abbrev mutual
  pub flat_item : Tree → List Tree
  flat_item nil = nil ∷ []
  flat_item (state s) = state s ∷ []
  flat_item (scalar x) = scalar x ∷ []
  flat_item (array ts) = flat_items ts
  flat_item (object ms) = object ms ∷ []

  pub flat_items : Items → List Tree
  flat_items no_items = []
  flat_items (item t ts) = flat_item t ++ flat_items ts

-- nothing for nil and for a state, an array's items, otherwise the value itself
abbrev pub flat : Tree → List Tree
flat nil = []
flat (state s) = []
flat (scalar x) = scalar x ∷ []
flat (array ts) = flat_items ts
flat (object ms) = object ms ∷ []

-- the items of an array, unchanged, without those of arrays among them
abbrev pub own_items : Items → List Tree
own_items no_items = []
own_items (item t ts) = t ∷ own_items ts
