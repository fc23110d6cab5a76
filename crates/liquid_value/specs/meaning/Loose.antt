-- Loose equality of values.
use Rattle.std.specs.Prelude.{Bool, true, false, not, ◌&&◌, Option, None, Some, nat_eq}
use Rattle.std.specs.Bool.{beq}
use Rattle.std.specs.Cmp.Lexicographic.{pointwise}
use Rattle.liquid_scalar.specs.meaning.Scalar.{to_bool}
use Rattle.liquid_scalar.specs.meaning.ScalarCompare.{scalar_eq}
use Rattle.liquid_value.specs.meaning.Kind.{query_state}
use Rattle.liquid_value.specs.meaning.Tree.{Tree, nil, state, scalar, array, object, Items, no_items, item, Members, no_members, member}

-- there is a boolean, and it is this one
abbrev pub is_truth : Bool → Option Bool → Bool
is_truth b None = false
is_truth b (Some own) = beq b own

-- the table for values that are not both arrays and not both objects; the first line that fits counts. A state equals
-- the values in it; a scalar equals nil only if it is false, and an array or object only if it is true
abbrev pub leaf_eq : Tree → Tree → Bool
leaf_eq nil nil = true
leaf_eq (state s) r = query_state r s
leaf_eq l (state s) = query_state l s
leaf_eq (scalar x) (scalar y) = scalar_eq x y
leaf_eq (scalar x) nil = is_truth false (to_bool x)
leaf_eq nil (scalar y) = is_truth false (to_bool y)
leaf_eq (scalar x) r = is_truth true (to_bool x)
leaf_eq l (scalar y) = is_truth true (to_bool y)
leaf_eq l r = false

-- the table in that direction
abbrev pub leaf_facing : Bool → Tree → Tree → Bool
leaf_facing true l r = leaf_eq l r
leaf_facing false l r = leaf_eq r l

-- `facing true l r` is the loose equality of l with r, and `facing false l r` that of r with l. Arrays are compared
-- item by item; objects entry by entry in the order of their names: the names must be the same, and the values are
-- compared with the sides swapped
abbrev mutual
  pub facing : Bool → Tree → Tree → Bool
  facing onward (array ls) (array rs) = items_facing onward ls rs
  facing onward (object ls) (object rs) = members_facing onward ls rs
  facing onward nil r = leaf_facing onward nil r
  facing onward (state s) r = leaf_facing onward (state s) r
  facing onward (scalar x) r = leaf_facing onward (scalar x) r
  facing onward (array ls) r = leaf_facing onward (array ls) r
  facing onward (object ls) r = leaf_facing onward (object ls) r

  pub items_facing : Bool → Items → Items → Bool
  items_facing onward no_items no_items = true
  items_facing onward no_items (item r rs) = false
  items_facing onward (item l ls) no_items = false
  items_facing onward (item l ls) (item r rs) = facing onward l r && items_facing onward ls rs

  pub members_facing : Bool → Members → Members → Bool
  members_facing onward no_members no_members = true
  members_facing onward no_members (member q r rs) = false
  members_facing onward (member k l ls) no_members = false
  members_facing onward (member k l ls) (member q r rs) = pointwise nat_eq k q && (facing (not onward) l r && members_facing onward ls rs)

-- loose equality
abbrev pub value_eq : Tree → Tree → Bool
value_eq l r = facing true l r
