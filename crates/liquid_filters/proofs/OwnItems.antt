-- The items of an array, as a list and as a tree.
use Rattle.std.proofs.Common.{◌≡◌, List, [], ◌∷◌, refl, ap}
use Rattle.liquid_value.specs.meaning.Tree.{Tree}
use Rattle.liquid_value.specs.meaning.View.{items_of}
use Rattle.liquid_filters.specs.meaning.value.Items.{own_items}

-- the items that a list of trees means are that list
pub own_items_of : (ts : List Tree) → own_items (items_of ts) ≡ ts
own_items_of [] = refl
own_items_of (t ∷ ts) = ap (λ us. t ∷ us) (own_items_of ts)
