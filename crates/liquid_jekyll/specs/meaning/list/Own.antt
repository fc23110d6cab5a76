-- The items that an array or an object has itself.
use Rattle.std.specs.Prelude.{List, [], ◌∷◌, Option, Some, None}
use Rattle.liquid_value.specs.meaning.Tree.{Tree, array, object, Members, no_members, member}
use Rattle.liquid_filters.specs.meaning.value.Items.{own_items}

-- the values of an object, in the order of its names
abbrev pub member_values : Members → List Tree
member_values no_members = []
member_values (member name t ms) = t ∷ member_values ms

-- an array's items, or an object's values
abbrev pub own : Tree → Option (List Tree)
own (array ts) = Some (own_items ts)
own (object ms) = Some (member_values ms)
own other = None
