-- One step from a value by an index.
use Rattle.std.specs.Prelude.{ℕ, pos, negsuc, List, length, codes, Option, None, Some, bytes_eq, if◌then◌else◌, option_and_then}
use Rattle.std.specs.Option.{option_or}
use Rattle.liquid_scalar.specs.meaning.Scalar.{Scal, integer, text, render_scalar, to_integer}
use Rattle.liquid_value.specs.meaning.Members.{get_member, item_count, member_count}
use Rattle.liquid_value.specs.meaning.Tree.{Tree, nil, state, scalar, array, object, Items}
use Rattle.liquid_value.specs.meaning.Place.{item_at}

-- the word `size` gives the number of parts
abbrev pub size_asked : List ℕ → ℕ → Option Tree
size_asked word count = if bytes_eq word (codes "size") then Some (scalar (integer (pos count))) else None

-- the words `first`, `last` and `size` give an array's first item, its last one, and the number of items
abbrev pub item_asked : List ℕ → Items → Option Tree
item_asked word ts =
    if bytes_eq word (codes "first") then item_at (pos 0) ts
    else (if bytes_eq word (codes "last") then item_at (negsuc 0) ts else size_asked word (item_count ts))

-- the member of an object at a text, and the item of an array at an integer
abbrev pub own_part : Tree → Scal → Option Tree
own_part (array ts) (integer n) = item_at n ts
own_part (object ms) (text word) = get_member word ms
own_part t index = None

-- an array has the item at the index's number, otherwise what the index's text names; an object has its own key,
-- otherwise its size; a scalar has the size of its text; nil and a state have nothing
abbrev pub step : Tree → Scal → Option Tree
step nil index = None
step (state s) index = None
step (scalar x) index = size_asked (render_scalar index) (length (render_scalar x))
step (array ts) index = option_or (option_and_then (λ n. item_at n ts) (to_integer index)) (item_asked (render_scalar index) ts)
step (object ms) index = option_or (get_member (render_scalar index) ms) (size_asked (render_scalar index) (member_count ms))
