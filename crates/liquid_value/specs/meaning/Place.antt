-- The place in a list that an index names.
use Rattle.std.specs.Prelude.{ℕ, zero, suc, ◌-◌, ℤ, pos, negsuc, Option, None, Some, nat_lt, if◌then◌else◌, option_and_then}
use Rattle.liquid_value.specs.meaning.Members.{item_count}
use Rattle.liquid_value.specs.meaning.Tree.{Tree, Items, no_items, item}

-- an index from 0 on counts from the front, a negative one from the end: -1 is the last item
abbrev pub place_at : ℤ → ℕ → Option ℕ
place_at (pos k) length = if nat_lt k length then Some k else None
place_at (negsuc k) length = if nat_lt k length then Some (length - suc k) else None

-- the item at a place
abbrev pub nth : ℕ → Items → Option Tree
nth place no_items = None
nth zero (item t ts) = Some t
nth (suc place) (item t ts) = nth place ts

-- the item at an index
abbrev pub item_at : ℤ → Items → Option Tree
item_at index ts = option_and_then (λ place. nth place ts) (place_at index (item_count ts))
