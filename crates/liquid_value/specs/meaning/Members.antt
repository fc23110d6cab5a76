-- An object's members as a map from name to tree.
use Rattle.std.specs.Prelude.{ℕ, suc, List, Option, None, Some}
use Rattle.std.specs.Ordering.{nat_cmp, match_ordering}
use Rattle.std.specs.Cmp.Lexicographic.{slice_cmp}
use Rattle.liquid_value.specs.meaning.Tree.{Tree, Items, no_items, item, Members, no_members, member}

-- the tree at a name
abbrev pub get_member : List ℕ → Members → Option Tree
get_member name no_members = None
get_member name (member k t ms) = match_ordering (slice_cmp nat_cmp name k) (get_member name ms) (Some t) (get_member name ms)

-- the members with a tree at a name, in byte order of the names
abbrev pub put_member : List ℕ → Tree → Members → Members
put_member name t no_members = member name t no_members
put_member name t (member k u ms) = match_ordering (slice_cmp nat_cmp name k) (member name t (member k u ms)) (member k t ms)
    (member k u (put_member name t ms))

-- how many members there are
abbrev pub member_count : Members → ℕ
member_count no_members = 0
member_count (member k t ms) = suc (member_count ms)

-- how many items there are
abbrev pub item_count : Items → ℕ
item_count no_items = 0
item_count (item t ts) = suc (item_count ts)
