-- Loose order of values.
use Rattle.std.specs.Prelude.{Option, None, Some}
use Rattle.std.specs.declared.cmp.Ordering.{Ordering}
use Rattle.std.specs.declared.cmp.Ordering.TheVariants.{Less, Equal, Greater}
use Rattle.std.specs.Ordering.{nat_cmp}
use Rattle.std.specs.Cmp.Lexicographic.{slice_cmp}
use Rattle.liquid_scalar.specs.meaning.ScalarCompare.{scalar_cmp}
use Rattle.liquid_value.specs.meaning.Tree.{Tree, scalar, array, object, Items, no_items, item, Members, no_members, member}

-- the first order decides, unless it is `Equal`; without a first order there is none
abbrev pub deciding : Option Ordering → Option Ordering → Option Ordering
deciding None rest = None
deciding (Some Less) rest = Some Less
deciding (Some Equal) rest = rest
deciding (Some Greater) rest = Some Greater

-- scalars by their own order; arrays item by item, objects entry by entry with the name first, and a beginning is less
-- than the whole; other pairs have no order
abbrev mutual
  pub value_cmp : Tree → Tree → Option Ordering
  value_cmp (scalar x) (scalar y) = scalar_cmp x y
  value_cmp (array ls) (array rs) = items_cmp ls rs
  value_cmp (object ls) (object rs) = members_cmp ls rs
  value_cmp l r = None

  pub items_cmp : Items → Items → Option Ordering
  items_cmp no_items no_items = Some Equal
  items_cmp no_items (item r rs) = Some Less
  items_cmp (item l ls) no_items = Some Greater
  items_cmp (item l ls) (item r rs) = deciding (value_cmp l r) (items_cmp ls rs)

  pub members_cmp : Members → Members → Option Ordering
  members_cmp no_members no_members = Some Equal
  members_cmp no_members (member q r rs) = Some Less
  members_cmp (member k l ls) no_members = Some Greater
  members_cmp (member k l ls) (member q r rs) = deciding (Some (slice_cmp nat_cmp k q)) (deciding (value_cmp l r) (members_cmp ls rs))
