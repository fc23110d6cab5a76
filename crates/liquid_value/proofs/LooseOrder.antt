-- The laws of loose order, by pairs of kinds.
use Rattle.std.proofs.Common.{◌≡◌, ℕ, List, Bool, true, false, not, Option, Some, None, Ordering, Less, Equal, Greater, refl, ap, ◌∙◌}
use Rattle.std.specs.Prelude.{nat_eq, option_map}
use Rattle.std.specs.Ordering.{nat_cmp, is_eq, ordering_reverse}
use Rattle.std.specs.Cmp.Lexicographic.{pointwise, slice_cmp, nat_list_cmp_total, texts_ties}
use Rattle.liquid_scalar.specs.meaning.Scalar.{Scal}
use Rattle.liquid_scalar.specs.meaning.ScalarCompare.{scalar_cmp}
use Rattle.liquid_scalar.specs.steps.ScalarLawProofs.{
  loose_symm as scalar_symm,
  order_swapped as scalar_swapped,
  equal_is_loose as scalar_equal,
}
use Rattle.liquid_value.specs.steps.Conjunction.{both_true}
use Rattle.liquid_value.specs.meaning.Loose.{facing, items_facing, members_facing, value_eq}
use Rattle.liquid_value.specs.meaning.Order.{deciding, value_cmp, items_cmp, members_cmp}
use Rattle.liquid_value.specs.meaning.Tree.{Tree, nil, state, scalar, array, object, Items, no_items, item, Members, no_members, member}

deciding_reversed : (a b : Option Ordering) → deciding (option_map ordering_reverse a)
    (option_map ordering_reverse b) ≡ option_map ordering_reverse (deciding a b)
deciding_reversed None b = refl
deciding_reversed (Some Less) b = refl
deciding_reversed (Some Equal) b = refl
deciding_reversed (Some Greater) b = refl

mutual
  -- swapping two values reverses their order
  pub order_swapped : (l r : Tree) → value_cmp r l ≡ option_map ordering_reverse (value_cmp l r)
  order_swapped nil nil = refl
  order_swapped nil (state u) = refl
  order_swapped nil (scalar y) = refl
  order_swapped nil (array rs) = refl
  order_swapped nil (object rs) = refl
  order_swapped (state s) nil = refl
  order_swapped (state s) (state u) = refl
  order_swapped (state s) (scalar y) = refl
  order_swapped (state s) (array rs) = refl
  order_swapped (state s) (object rs) = refl
  order_swapped (scalar x) nil = refl
  order_swapped (scalar x) (state u) = refl
  order_swapped (scalar x) (scalar y) = scalar_swapped x y
  order_swapped (scalar x) (array rs) = refl
  order_swapped (scalar x) (object rs) = refl
  order_swapped (array ls) nil = refl
  order_swapped (array ls) (state u) = refl
  order_swapped (array ls) (scalar y) = refl
  order_swapped (array ls) (array rs) = items_swapped ls rs
  order_swapped (array ls) (object rs) = refl
  order_swapped (object ls) nil = refl
  order_swapped (object ls) (state u) = refl
  order_swapped (object ls) (scalar y) = refl
  order_swapped (object ls) (array rs) = refl
  order_swapped (object ls) (object rs) = members_swapped ls rs

  items_swapped : (ls rs : Items) → items_cmp rs ls ≡ option_map ordering_reverse (items_cmp ls rs)
  items_swapped no_items no_items = refl
  items_swapped no_items (item r rs) = refl
  items_swapped (item l ls) no_items = refl
  items_swapped (item l ls) (item r rs) =
      ap (λ o. deciding o (items_cmp rs ls)) (order_swapped l r)
      ∙ ap (λ o. deciding (option_map ordering_reverse (value_cmp l r)) o) (items_swapped ls rs)
      ∙ deciding_reversed (value_cmp l r) (items_cmp ls rs)

  members_swapped : (ls rs : Members) → members_cmp rs ls ≡ option_map ordering_reverse (members_cmp ls rs)
  members_swapped no_members no_members = refl
  members_swapped no_members (member q r rs) = refl
  members_swapped (member k l ls) no_members = refl
  members_swapped (member k l ls) (member q r rs) =
      ap (λ o. deciding (Some o) (deciding (value_cmp r l) (members_cmp rs ls))) (nat_list_cmp_total.antisymm q k)
      ∙ ap (λ o. deciding (Some (ordering_reverse (slice_cmp nat_cmp k q))) (deciding o (members_cmp rs ls))) (order_swapped l r)
      ∙ ap (λ o. deciding (Some (ordering_reverse (slice_cmp nat_cmp k q))) (deciding (option_map ordering_reverse (value_cmp l r)) o))
      (members_swapped ls rs)
      ∙ ap (λ o. deciding (Some (ordering_reverse (slice_cmp nat_cmp k q))) o) (deciding_reversed (value_cmp l r) (members_cmp ls rs))
      ∙ deciding_reversed (Some (slice_cmp nat_cmp k q)) (deciding (value_cmp l r) (members_cmp ls rs))

first_equal : (a b : Option Ordering) → deciding a b ≡ Some Equal → a ≡ Some Equal
first_equal None b e = cc
first_equal (Some Less) b e = cc
first_equal (Some Equal) b e = refl
first_equal (Some Greater) b e = cc

rest_equal : (a b : Option Ordering) → deciding a b ≡ Some Equal → b ≡ Some Equal
rest_equal None b e = cc
rest_equal (Some Less) b e = cc
rest_equal (Some Equal) b e = e
rest_equal (Some Greater) b e = cc

same_name : (k q : List ℕ) → Some (slice_cmp nat_cmp k q) ≡ Some Equal → pointwise nat_eq k q ≡ true
same_name k q e = let tie : slice_cmp nat_cmp k q ≡ Equal = cc in texts_ties k q ∙ ap is_eq tie

scalars_equal : (onward : Bool) (x y : Scal) → scalar_cmp x y ≡ Some Equal → facing onward (scalar x) (scalar y) ≡ true
scalars_equal true x y e = scalar_equal x y e
scalars_equal false x y e = scalar_symm y x ∙ scalar_equal x y e

mutual
  equal_is_facing : (onward : Bool) (l r : Tree) → value_cmp l r ≡ Some Equal → facing onward l r ≡ true
  equal_is_facing onward nil nil e = cc
  equal_is_facing onward nil (state u) e = cc
  equal_is_facing onward nil (scalar y) e = cc
  equal_is_facing onward nil (array rs) e = cc
  equal_is_facing onward nil (object rs) e = cc
  equal_is_facing onward (state s) nil e = cc
  equal_is_facing onward (state s) (state u) e = cc
  equal_is_facing onward (state s) (scalar y) e = cc
  equal_is_facing onward (state s) (array rs) e = cc
  equal_is_facing onward (state s) (object rs) e = cc
  equal_is_facing onward (scalar x) nil e = cc
  equal_is_facing onward (scalar x) (state u) e = cc
  equal_is_facing onward (scalar x) (scalar y) e = scalars_equal onward x y e
  equal_is_facing onward (scalar x) (array rs) e = cc
  equal_is_facing onward (scalar x) (object rs) e = cc
  equal_is_facing onward (array ls) nil e = cc
  equal_is_facing onward (array ls) (state u) e = cc
  equal_is_facing onward (array ls) (scalar y) e = cc
  equal_is_facing onward (array ls) (array rs) e = items_equal onward ls rs e
  equal_is_facing onward (array ls) (object rs) e = cc
  equal_is_facing onward (object ls) nil e = cc
  equal_is_facing onward (object ls) (state u) e = cc
  equal_is_facing onward (object ls) (scalar y) e = cc
  equal_is_facing onward (object ls) (array rs) e = cc
  equal_is_facing onward (object ls) (object rs) e = members_equal onward ls rs e

  items_equal : (onward : Bool) (ls rs : Items) → items_cmp ls rs ≡ Some Equal → items_facing onward ls rs ≡ true
  items_equal onward no_items no_items e = refl
  items_equal onward no_items (item r rs) e = cc
  items_equal onward (item l ls) no_items e = cc
  items_equal onward (item l ls) (item r rs) e =
      both_true (equal_is_facing onward l r (first_equal _ _ e)) (items_equal onward ls rs (rest_equal (value_cmp l r) _ e))

  members_equal : (onward : Bool) (ls rs : Members) → members_cmp ls rs ≡ Some Equal → members_facing onward ls rs ≡ true
  members_equal onward no_members no_members e = refl
  members_equal onward no_members (member q r rs) e = cc
  members_equal onward (member k l ls) no_members e = cc
  members_equal onward (member k l ls) (member q r rs) e =
      let values = rest_equal (Some (slice_cmp nat_cmp k q)) (deciding (value_cmp l r) (members_cmp ls rs)) e in
      both_true (same_name k q (first_equal (Some (slice_cmp nat_cmp k q)) (deciding (value_cmp l r) (members_cmp ls rs)) e))
      (both_true (equal_is_facing (not onward) l r (first_equal (value_cmp l r) (members_cmp ls rs) values))
      (members_equal onward ls rs (rest_equal (value_cmp l r) (members_cmp ls rs) values)))

-- values that compare as `Equal` are loosely equal
pub equal_is_loose : (l r : Tree) → value_cmp l r ≡ Some Equal → value_eq l r ≡ true
equal_is_loose l r e = equal_is_facing true l r e
