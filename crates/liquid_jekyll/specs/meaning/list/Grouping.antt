-- What Jekyll's filter that groups items by their keys returns.
use Rattle.std.specs.Prelude.{ℕ, pos, List, [], ◌∷◌, Result, Ok, Err, codes, filter, length, map}
use Rattle.liquid_error.specs.meaning.Refusal.{Refusal, ok_then}
use Rattle.liquid_scalar.specs.meaning.Scalar.{integer}
use Rattle.liquid_value.specs.meaning.Render.{render}
use Rattle.liquid_value.specs.meaning.Strict.{same_value}
use Rattle.liquid_value.specs.meaning.Tree.{Tree, scalar, array, object, no_members, member}
use Rattle.liquid_filters.specs.meaning.list.Choices.{distinct, items_in, keys_of}
use Rattle.liquid_filters.specs.meaning.list.Lists.{list_of}
use Rattle.liquid_filters.specs.meaning.value.Errors.{array_expected, unexpected_arguments}
use Rattle.liquid_filters.specs.meaning.value.Items.{own_items}
use Rattle.liquid_jekyll.specs.meaning.list.ItemKeys.{keyed}
use Rattle.liquid_jekyll.specs.meaning.list.Ordering.{with_texts}

-- the items whose key is the same as this one
abbrev pub items_with : Tree → List (Tree × Tree) → List Tree
items_with key es = items_in (filter (λ e. same_value e.0 key) es)

abbrev pub size_value : ℕ → Tree
size_value n = scalar (integer (pos n))

-- an object of a key as the name, of the items with this key, and of their number
abbrev pub group : List (Tree × Tree) → Tree → Tree
group es key =
    object
    (member (codes "items") (list_of (items_with key es))
    (member (codes "name") key (member (codes "size") (size_value (length (items_with key es))) no_members)))

-- the groups of entries with the same key, in the order of their first ones
abbrev pub groups : List (Tree × Tree) → List Tree
groups es = map (group es) (keys_of (distinct es))

-- the groups of entries whose keys have the same text
abbrev pub groups_by_text : List (Tree × Tree) → List Tree
groups_by_text es = groups (with_texts es)

-- the own items of an array in groups; an object is an error, and any other input stays
abbrev pub grouped_by : Tree → Tree → Result Tree Refusal
grouped_by (array ts) path = ok_then (keyed (render path) (own_items ts)) (λ es. Ok (list_of (groups_by_text es)))
grouped_by (object ms) path = Err (array_expected (object ms))
grouped_by other path = Ok other

abbrev pub grouped : Tree → List Tree → Result Tree Refusal
grouped input (path ∷ []) = grouped_by input path
grouped input other = Err unexpected_arguments
