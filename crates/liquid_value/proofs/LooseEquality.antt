-- The laws of loose equality, by pairs of kinds.
use Rattle.std.proofs.Common.{◌≡◌, Bool, true, false, not, ◌&&◌, refl, ap, ◌∙◌, sym}
use Rattle.std.specs.Prelude.{nat_eq}
use Rattle.std.specs.Cmp.Lexicographic.{pointwise, nat_list_eq_equiv}
use Rattle.liquid_scalar.specs.steps.ScalarLawProofs.{loose_refl as scalar_refl, loose_symm as scalar_symm}
use Rattle.liquid_value.specs.declared.state.State.{State}
use Rattle.liquid_value.specs.declared.state.State.TheVariants.{Truthy, DefaultValue, Empty, Blank}
use Rattle.liquid_value.specs.steps.Conjunction.{both_true, first_true, second_true}
use Rattle.liquid_value.specs.meaning.Kind.{absent_state}
use Rattle.liquid_value.specs.meaning.Loose.{leaf_eq, leaf_facing, facing, items_facing, members_facing, value_eq}
use Rattle.liquid_value.specs.laws.LooseLaws.{is_not_truthy, without_truthy, items_without_truthy, members_without_truthy}
use Rattle.liquid_value.specs.meaning.Tree.{Tree, nil, state, scalar, array, object, Items, no_items, item, Members, no_members, member}

-- nil and the states are in each state but the truthy one
absent : (s : State) → is_not_truthy s ≡ true → absent_state s ≡ true
absent Truthy h = h
absent DefaultValue h = refl
absent Empty h = refl
absent Blank h = refl

same_leaf : (onward : Bool) (t : Tree) → leaf_facing onward t t ≡ leaf_eq t t
same_leaf true t = refl
same_leaf false t = refl

mutual
  reflexive : (onward : Bool) (t : Tree) → without_truthy t ≡ true → facing onward t t ≡ true
  reflexive onward nil h = same_leaf onward nil
  reflexive onward (state s) h = same_leaf onward (state s) ∙ absent s h
  reflexive onward (scalar x) h = same_leaf onward (scalar x) ∙ scalar_refl x
  reflexive onward (array ts) h = items_reflexive onward ts h
  reflexive onward (object ms) h = members_reflexive onward ms h

  items_reflexive : (onward : Bool) (ts : Items) → items_without_truthy ts ≡ true → items_facing onward ts ts ≡ true
  items_reflexive onward no_items h = refl
  items_reflexive onward (item t ts) h = both_true (reflexive onward t (first_true _ _ h)) (items_reflexive onward ts (second_true _ _ h))

  members_reflexive : (onward : Bool) (ms : Members) → members_without_truthy ms ≡ true → members_facing onward ms ms ≡ true
  members_reflexive onward no_members h = refl
  members_reflexive onward (member k t ms) h =
      both_true (nat_list_eq_equiv.refl k) (both_true (reflexive (not onward) t (first_true _ _ h))
      (members_reflexive onward ms (second_true _ _ h)))

-- without the truthy state, a value loosely equals itself
pub value_eq_refl : (t : Tree) → without_truthy t ≡ true → value_eq t t ≡ true
value_eq_refl t h = reflexive true t h

leaf_symm : (l r : Tree) → without_truthy l ≡ true → without_truthy r ≡ true → leaf_eq l r ≡ leaf_eq r l
leaf_symm nil nil h k = refl
leaf_symm nil (state u) h k = refl
leaf_symm nil (scalar y) h k = refl
leaf_symm nil (array rs) h k = refl
leaf_symm nil (object rs) h k = refl
leaf_symm (state s) nil h k = refl
leaf_symm (state s) (state u) h k = absent s h ∙ sym (absent u k)
leaf_symm (state s) (scalar y) h k = refl
leaf_symm (state s) (array rs) h k = refl
leaf_symm (state s) (object rs) h k = refl
leaf_symm (scalar x) nil h k = refl
leaf_symm (scalar x) (state u) h k = refl
leaf_symm (scalar x) (scalar y) h k = scalar_symm x y
leaf_symm (scalar x) (array rs) h k = refl
leaf_symm (scalar x) (object rs) h k = refl
leaf_symm (array ls) nil h k = refl
leaf_symm (array ls) (state u) h k = refl
leaf_symm (array ls) (scalar y) h k = refl
leaf_symm (array ls) (array rs) h k = refl
leaf_symm (array ls) (object rs) h k = refl
leaf_symm (object ls) nil h k = refl
leaf_symm (object ls) (state u) h k = refl
leaf_symm (object ls) (scalar y) h k = refl
leaf_symm (object ls) (array rs) h k = refl
leaf_symm (object ls) (object rs) h k = refl

facing_symm : (onward : Bool) (l r : Tree) → without_truthy l ≡ true → without_truthy r ≡ true
    → leaf_facing onward l r ≡ leaf_facing onward r l
facing_symm true l r h k = leaf_symm l r h k
facing_symm false l r h k = leaf_symm r l k h

mutual
  symmetric : (onward : Bool) (l r : Tree) → without_truthy l ≡ true → without_truthy r ≡ true → facing onward l r ≡ facing onward r l
  symmetric onward nil nil h k = facing_symm onward nil nil h k
  symmetric onward nil (state u) h k = facing_symm onward nil (state u) h k
  symmetric onward nil (scalar y) h k = facing_symm onward nil (scalar y) h k
  symmetric onward nil (array rs) h k = facing_symm onward nil (array rs) h k
  symmetric onward nil (object rs) h k = facing_symm onward nil (object rs) h k
  symmetric onward (state s) nil h k = facing_symm onward (state s) nil h k
  symmetric onward (state s) (state u) h k = facing_symm onward (state s) (state u) h k
  symmetric onward (state s) (scalar y) h k = facing_symm onward (state s) (scalar y) h k
  symmetric onward (state s) (array rs) h k = facing_symm onward (state s) (array rs) h k
  symmetric onward (state s) (object rs) h k = facing_symm onward (state s) (object rs) h k
  symmetric onward (scalar x) nil h k = facing_symm onward (scalar x) nil h k
  symmetric onward (scalar x) (state u) h k = facing_symm onward (scalar x) (state u) h k
  symmetric onward (scalar x) (scalar y) h k = facing_symm onward (scalar x) (scalar y) h k
  symmetric onward (scalar x) (array rs) h k = facing_symm onward (scalar x) (array rs) h k
  symmetric onward (scalar x) (object rs) h k = facing_symm onward (scalar x) (object rs) h k
  symmetric onward (array ls) nil h k = facing_symm onward (array ls) nil h k
  symmetric onward (array ls) (state u) h k = facing_symm onward (array ls) (state u) h k
  symmetric onward (array ls) (scalar y) h k = facing_symm onward (array ls) (scalar y) h k
  symmetric onward (array ls) (array rs) h k = items_symmetric onward ls rs h k
  symmetric onward (array ls) (object rs) h k = facing_symm onward (array ls) (object rs) h k
  symmetric onward (object ls) nil h k = facing_symm onward (object ls) nil h k
  symmetric onward (object ls) (state u) h k = facing_symm onward (object ls) (state u) h k
  symmetric onward (object ls) (scalar y) h k = facing_symm onward (object ls) (scalar y) h k
  symmetric onward (object ls) (array rs) h k = facing_symm onward (object ls) (array rs) h k
  symmetric onward (object ls) (object rs) h k = members_symmetric onward ls rs h k

  items_symmetric : (onward : Bool) (ls rs : Items) → items_without_truthy ls ≡ true → items_without_truthy rs ≡ true
      → items_facing onward ls rs ≡ items_facing onward rs ls
  items_symmetric onward no_items no_items h k = refl
  items_symmetric onward no_items (item r rs) h k = refl
  items_symmetric onward (item l ls) no_items h k = refl
  items_symmetric onward (item l ls) (item r rs) h k =
      ap (λ b. b && items_facing onward ls rs) (symmetric onward l r (first_true _ _ h) (first_true _ _ k))
      ∙ ap (λ b. facing onward r l && b) (items_symmetric onward ls rs (second_true _ _ h) (second_true _ _ k))

  members_symmetric : (onward : Bool) (ls rs : Members) → members_without_truthy ls ≡ true → members_without_truthy rs ≡ true
      → members_facing onward ls rs ≡ members_facing onward rs ls
  members_symmetric onward no_members no_members h k = refl
  members_symmetric onward no_members (member q r rs) h k = refl
  members_symmetric onward (member p l ls) no_members h k = refl
  members_symmetric onward (member p l ls) (member q r rs) h k =
      ap (λ b. b && (facing (not onward) l r && members_facing onward ls rs)) (nat_list_eq_equiv.symm p q)
      ∙ ap (λ b. pointwise nat_eq q p && (b && members_facing onward ls rs))
      (symmetric (not onward) l r (first_true _ _ h) (first_true _ _ k))
      ∙ ap (λ b. pointwise nat_eq q p && (facing (not onward) r l && b))
      (members_symmetric onward ls rs (second_true _ _ h) (second_true _ _ k))

-- without the truthy state, loose equality is symmetric
pub value_eq_symm : (l r : Tree) → without_truthy l ≡ true → without_truthy r ≡ true → value_eq l r ≡ value_eq r l
value_eq_symm l r h k = symmetric true l r h k

leaf_turned : (onward : Bool) (l r : Tree) → leaf_facing (not onward) l r ≡ leaf_facing onward r l
leaf_turned true l r = refl
leaf_turned false l r = refl

mutual
  turned : (onward : Bool) (l r : Tree) → facing (not onward) l r ≡ facing onward r l
  turned onward nil nil = leaf_turned onward nil nil
  turned onward nil (state u) = leaf_turned onward nil (state u)
  turned onward nil (scalar y) = leaf_turned onward nil (scalar y)
  turned onward nil (array rs) = leaf_turned onward nil (array rs)
  turned onward nil (object rs) = leaf_turned onward nil (object rs)
  turned onward (state s) nil = leaf_turned onward (state s) nil
  turned onward (state s) (state u) = leaf_turned onward (state s) (state u)
  turned onward (state s) (scalar y) = leaf_turned onward (state s) (scalar y)
  turned onward (state s) (array rs) = leaf_turned onward (state s) (array rs)
  turned onward (state s) (object rs) = leaf_turned onward (state s) (object rs)
  turned onward (scalar x) nil = leaf_turned onward (scalar x) nil
  turned onward (scalar x) (state u) = leaf_turned onward (scalar x) (state u)
  turned onward (scalar x) (scalar y) = leaf_turned onward (scalar x) (scalar y)
  turned onward (scalar x) (array rs) = leaf_turned onward (scalar x) (array rs)
  turned onward (scalar x) (object rs) = leaf_turned onward (scalar x) (object rs)
  turned onward (array ls) nil = leaf_turned onward (array ls) nil
  turned onward (array ls) (state u) = leaf_turned onward (array ls) (state u)
  turned onward (array ls) (scalar y) = leaf_turned onward (array ls) (scalar y)
  turned onward (array ls) (array rs) = items_turned onward ls rs
  turned onward (array ls) (object rs) = leaf_turned onward (array ls) (object rs)
  turned onward (object ls) nil = leaf_turned onward (object ls) nil
  turned onward (object ls) (state u) = leaf_turned onward (object ls) (state u)
  turned onward (object ls) (scalar y) = leaf_turned onward (object ls) (scalar y)
  turned onward (object ls) (array rs) = leaf_turned onward (object ls) (array rs)
  turned onward (object ls) (object rs) = members_turned onward ls rs

  items_turned : (onward : Bool) (ls rs : Items) → items_facing (not onward) ls rs ≡ items_facing onward rs ls
  items_turned onward no_items no_items = refl
  items_turned onward no_items (item r rs) = refl
  items_turned onward (item l ls) no_items = refl
  items_turned onward (item l ls) (item r rs) =
      ap (λ b. b && items_facing (not onward) ls rs) (turned onward l r) ∙ ap (λ b. facing onward r l && b) (items_turned onward ls rs)

  members_turned : (onward : Bool) (ls rs : Members) → members_facing (not onward) ls rs ≡ members_facing onward rs ls
  members_turned onward no_members no_members = refl
  members_turned onward no_members (member q r rs) = refl
  members_turned onward (member p l ls) no_members = refl
  members_turned onward (member p l ls) (member q r rs) =
      ap (λ b. b && (facing (not (not onward)) l r && members_facing (not onward) ls rs)) (nat_list_eq_equiv.symm p q)
      ∙ ap (λ b. pointwise nat_eq q p && (b && members_facing (not onward) ls rs)) (turned (not onward) l r)
      ∙ ap (λ b. pointwise nat_eq q p && (facing (not onward) r l && b)) (members_turned onward ls rs)

-- facing with the sides swapped is the loose equality of the right with the left
pub facing_back : (l r : Tree) → facing false l r ≡ value_eq r l
facing_back l r = turned true l r
