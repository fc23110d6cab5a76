-- Laws of loose equality and of loose order.
use Rattle.std.specs.Prelude.{◌≡◌, ℕ, List, [], Bool, true, false, ◌&&◌, ◌==◌, Option, None, Some, option_map}
use Rattle.std.specs.declared.cmp.Ordering.TheVariants.{Equal}
use Rattle.std.specs.Ordering.{nat_cmp, is_lt, ordering_reverse}
use Rattle.std.specs.Cmp.Lexicographic.{slice_cmp}
use Rattle.liquid_scalar.specs.meaning.Scalar.{text}
use Rattle.liquid_value.specs.declared.state.State.{State}
use Rattle.liquid_value.specs.declared.state.State.TheVariants.{Truthy, DefaultValue, Empty, Blank}
use Rattle.liquid_value.specs.meaning.Loose.{value_eq}
use Rattle.liquid_value.specs.meaning.Members.{get_member, member_count}
use Rattle.liquid_value.specs.meaning.Order.{value_cmp}
use Rattle.liquid_value.specs.meaning.Tree.{Tree, nil, state, scalar, array, object, Items, no_items, item, Members, no_members, member}

-- the state is not the truthy one
abbrev pub is_not_truthy : State → Bool
is_not_truthy Truthy = false
is_not_truthy DefaultValue = true
is_not_truthy Empty = true
is_not_truthy Blank = true

-- the truthy state occurs nowhere in the value
abbrev mutual
  pub without_truthy : Tree → Bool
  without_truthy nil = true
  without_truthy (state s) = is_not_truthy s
  without_truthy (scalar x) = true
  without_truthy (array ts) = items_without_truthy ts
  without_truthy (object ms) = members_without_truthy ms

  pub items_without_truthy : Items → Bool
  items_without_truthy no_items = true
  items_without_truthy (item t ts) = without_truthy t && items_without_truthy ts

  pub members_without_truthy : Members → Bool
  members_without_truthy no_members = true
  members_without_truthy (member k t ms) = without_truthy t && members_without_truthy ms

-- a value without the truthy state loosely equals itself
abbrev pub LooseEqualityIsReflexive : Type 0
LooseEqualityIsReflexive = (t : Tree) → without_truthy t ≡ true → value_eq t t ≡ true

-- between values without the truthy state, loose equality is symmetric
abbrev pub LooseEqualityIsSymmetric : Type 0
LooseEqualityIsSymmetric = (l r : Tree) → without_truthy l ≡ true → without_truthy r ≡ true → value_eq l r ≡ value_eq r l

-- loose equality is not transitive: the empty string and the state `Empty` are equal, that state and the empty array are
-- equal, and the empty string and the empty array are not
abbrev pub LooseEqualityIsNotTransitive : Type 0
LooseEqualityIsNotTransitive = (value_eq (scalar (text [])) (state Empty) ≡ true) × (value_eq (state Empty) (array no_items) ≡ true)
    × (value_eq (scalar (text [])) (array no_items) ≡ false)

-- swapping two values reverses their order, or leaves them without one
abbrev pub OrderSwappedIsReversed : Type 0
OrderSwappedIsReversed = (l r : Tree) → value_cmp r l ≡ option_map ordering_reverse (value_cmp l r)

-- values that compare as `Equal` are loosely equal
abbrev pub EqualInOrderIsLooselyEqual : Type 0
EqualInOrderIsLooselyEqual = (l r : Tree) → value_cmp l r ≡ Some Equal → value_eq l r ≡ true

-- a name is before all of these
abbrev pub comes_before : List ℕ → Members → Bool
comes_before k no_members = true
comes_before k (member q t ms) = is_lt (slice_cmp nat_cmp k q) && comes_before k ms

-- the names are in byte order, each once
abbrev pub in_name_order : Members → Bool
in_name_order no_members = true
in_name_order (member k t ms) = comes_before k ms && in_name_order ms

-- the right has a value, and it loosely equals the one on the left, with the sides swapped
abbrev pub equal_back : Tree → Option Tree → Bool
equal_back l None = false
equal_back l (Some r) = value_eq r l

-- each name of the left is in the right, and the values are equal with the sides swapped
abbrev pub each_is_in : Members → Members → Bool
each_is_in no_members rs = true
each_is_in (member k l ls) rs = equal_back l (get_member k rs) && each_is_in ls rs

-- equal sizes, and each name of the left is in the right with the values compared with the sides swapped
abbrev pub objects_equal_by_name : Members → Members → Bool
objects_equal_by_name ls rs = (member_count ls == member_count rs) && each_is_in ls rs

-- loose equality of objects is decided by their names
abbrev pub LooseEqualityOfObjectsGoesByName : Type 0
LooseEqualityOfObjectsGoesByName = (ls rs : Members) → in_name_order ls ≡ true → in_name_order rs ≡ true
    → value_eq (object ls) (object rs) ≡ objects_equal_by_name ls rs
