-- Whether a value contains another.
use Rattle.std.specs.Prelude.{ℕ, List, Bool, true, false, ◌||◌, is_some}
use Rattle.memchr.specs.Find.{first_of, matches}
use Rattle.liquid_scalar.specs.meaning.Scalar.{boolean, text}
use Rattle.liquid_value.specs.meaning.Members.{get_member}
use Rattle.liquid_value.specs.meaning.Render.{render}
use Rattle.liquid_value.specs.meaning.Strict.{same_value}
use Rattle.liquid_value.specs.meaning.Tree.{Tree, nil, scalar, array, object, Items, no_items, item}

-- whether a text occurs in another
abbrev pub occurs_in : List ℕ → List ℕ → Bool
occurs_in search bytes = is_some (first_of (matches bytes search 0))

-- whether one of the items is the same value
abbrev pub has_item : Tree → Items → Bool
has_item r no_items = false
has_item r (item t ts) = same_value t r || has_item r ts

-- a text contains the texts that occur in it, an array its own items, an object its names
abbrev pub contains_value : Tree → Tree → Bool
contains_value (scalar (text bytes)) r = occurs_in (render r) bytes
contains_value (array ts) r = has_item r ts
contains_value (object ms) (scalar (text name)) = is_some (get_member name ms)
contains_value l r = false

-- nothing contains nil or false
abbrev pub contains : Tree → Tree → Bool
contains l nil = false
contains l (scalar (boolean false)) = false
contains l r = contains_value l r
