-- What the filters on whole lists return.
use Rattle.std.specs.Prelude.{ℕ, List, [], ◌∷◌, ◌++◌, codes, reverse, Result, Ok, Err}
use Rattle.std.specs.List.{join_by}
use Rattle.liquid_error.specs.meaning.Refusal.{Refusal}
use Rattle.liquid_scalar.specs.meaning.Scalar.{text}
use Rattle.liquid_value.specs.meaning.Render.{render}
use Rattle.liquid_value.specs.meaning.Tree.{Tree, nil, scalar, array, object, Items, no_items, item, Members, no_members, member}
use Rattle.liquid_value.specs.meaning.View.{items_of}
use Rattle.liquid_filters.specs.meaning.value.Errors.{array_expected, unexpected_arguments}
use Rattle.liquid_filters.specs.meaning.value.Items.{flat, own_items}

-- the array of these items
abbrev pub list_of : List Tree → Tree
list_of ts = array (items_of ts)

-- an array's first item, the name and the value of an object's first member, otherwise nil
abbrev pub first_item : Items → Tree
first_item no_items = nil
first_item (item t ts) = t

abbrev pub first_member : Members → Tree
first_member no_members = nil
first_member (member name t ms) = list_of (scalar (text name) ∷ t ∷ [])

abbrev pub first : Tree → Tree
first (array ts) = first_item ts
first (object ms) = first_member ms
first other = nil

-- an array's last item, otherwise nil
abbrev pub last_item : Tree → Items → Tree
last_item before no_items = before
last_item before (item t ts) = last_item t ts

abbrev pub last : Tree → Tree
last (array ts) = last_item nil ts
last other = nil

-- the items in the opposite order
abbrev pub reversed : Tree → Tree
reversed input = list_of (reverse (flat input))

-- the items, then those of another array, unchanged
abbrev pub concatenated : Tree → Tree → Result Tree Refusal
concatenated input (array ts) = Ok (list_of (flat input ++ own_items ts))
concatenated input other = Err (array_expected other)

abbrev pub concat : Tree → List Tree → Result Tree Refusal
concat input (t ∷ []) = concatenated input t
concat input other = Err unexpected_arguments

-- the texts of the items with a separator between each two
abbrev pub joined : List ℕ → Tree → Tree
joined separator input = scalar (text (join_by render separator (flat input)))

-- the same, with a space if no separator is given
abbrev pub join : Tree → List Tree → Result Tree Refusal
join input [] = Ok (joined (codes " ") input)
join input (t ∷ []) = Ok (joined (render t) input)
join input other = Err unexpected_arguments
