-- The items of values, as lists of trees.
use Rattle.std.proofs.Common.{◌≡◌, List, [], ◌∷◌, Some, Ok, refl, ap}
use Rattle.liquid_value.specs.meaning.Tree.{Tree, Members, nil, state, scalar, array, object}
use Rattle.liquid_value.specs.meaning.Parts.{as_object}
use Rattle.liquid_value.specs.meaning.View.{items_of}
use Rattle.liquid_tags.specs.meaning.Series.{items_in, pairs, trees}

pub trees_of : (ts : List Tree) → trees (items_of ts) ≡ ts
trees_of [] = refl
trees_of (t ∷ ts) = ap (λ us. t ∷ us) (trees_of ts)

-- the items of a value that has members
pub items_of_object : (t : Tree) (ms : Members) → as_object t ≡ Some ms → items_in t ≡ Ok (pairs ms)
items_of_object nil ms e = cc
items_of_object (state s) ms e = cc
items_of_object (scalar x) ms e = cc
items_of_object (array ts) ms e = cc
items_of_object (object members) ms e = cc
