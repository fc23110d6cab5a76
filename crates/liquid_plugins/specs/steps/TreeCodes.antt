-- A code of trees, so that a marker can be used for them. (It is about values only, and would fit the crate of values
-- as well.)
use Rattle.std.specs.Prelude.{◌≡◌, ℕ, ℤ, Bool, List, [], ◌⊎◌, refl}
use Rattle.std.specs.Coded.{Coded, code_by, coded⊎, coded_ℕ, coded_ℤ, coded_bool, coded_list}
use Rattle.std.proofs.Common.{ap, ◌∙◌, inl, inr}
use base.Stored.{Gv, gnil, gnum, gcons}
use Rattle.jiff_core.specs.declared.civil.date.Date.{Date as CivilDate}
use Rattle.jiff_core.specs.contracts.civil.date.Date as civil
use Rattle.liquid_dates.specs.declared.date_time.DateTime.{DateTime}
use Rattle.liquid_dates.specs.contracts.date_time.DateTime as moment
use Rattle.liquid_value.specs.declared.state.State.{State}
use Rattle.liquid_value.specs.contracts.state.State as states
use Rattle.liquid_scalar.specs.meaning.Scalar.{Scal, integer, boolean, text, date, date_time}
use Rattle.liquid_value.specs.meaning.Tree.{Tree, nil, state, scalar, array, object, Items, no_items, item, Members, no_members, member}

-- pairs of pairs, with leaves in a type that has a code
pub data Pairs (A : Type 0) : Type 0 where
  leaf : A → Pairs A
  pair : Pairs A → Pairs A → Pairs A

abbrev front : Gv → Gv
front gnil = gnil
front (gnum n) = gnil
front (gcons a b) = a

abbrev back : Gv → Gv
back gnil = gnil
back (gnum n) = gnil
back (gcons a b) = b

module _ {A : Type 0} (a : Coded A) where
  abbrev pairs_code : Pairs A → Gv
  pairs_code (leaf x) = gcons gnil (a.code x)
  pairs_code (pair x y) = gcons (gnum 0) (gcons (pairs_code x) (pairs_code y))

  pairs_one : (x y : Pairs A) → pairs_code x ≡ pairs_code y → x ≡ y
  pairs_one (leaf x) (leaf y) e = ap leaf (a.inj x y (ap back e))
  pairs_one (leaf x) (pair u v) e = cc
  pairs_one (pair x y) (leaf u) e = cc
  pairs_one (pair x y) (pair u v) e =
      ap (λ p. pair p y) (pairs_one x u (ap (λ g. front (back g)) e)) ∙ ap (pair u) (pairs_one y v (ap (λ g. back (back g)) e))

  pub coded_pairs : Coded (Pairs A)
  coded_pairs = record { code = pairs_code; inj = pairs_one }

-- the leaves of trees
pub data Leaf : Type 0 where
  of_scalar : Scal → Leaf
  of_state : State → Leaf
  of_name : List ℕ → Leaf
  nothing : Leaf
  is_array : Leaf
  is_object : Leaf

abbrev scal_sum : Scal → ℤ ⊎ (Bool ⊎ (List ℕ ⊎ (CivilDate ⊎ DateTime)))
scal_sum (integer n) = inl n
scal_sum (boolean b) = inr (inl b)
scal_sum (text t) = inr (inr (inl t))
scal_sum (date d) = inr (inr (inr (inl d)))
scal_sum (date_time dt) = inr (inr (inr (inr dt)))

abbrev scal_of_sum : ℤ ⊎ (Bool ⊎ (List ℕ ⊎ (CivilDate ⊎ DateTime))) → Scal
scal_of_sum (inl n) = integer n
scal_of_sum (inr (inl b)) = boolean b
scal_of_sum (inr (inr (inl t))) = text t
scal_of_sum (inr (inr (inr (inl d)))) = date d
scal_of_sum (inr (inr (inr (inr dt)))) = date_time dt

scal_same : (x : Scal) → scal_of_sum (scal_sum x) ≡ x
scal_same (integer n) = refl
scal_same (boolean b) = refl
scal_same (text t) = refl
scal_same (date d) = refl
scal_same (date_time dt) = refl

pub coded_scal : Coded Scal
coded_scal =
    code_by (ℤ ⊎ (Bool ⊎ (List ℕ ⊎ (CivilDate ⊎ DateTime)))) (coded⊎ coded_ℤ
    (coded⊎ coded_bool (coded⊎ (coded_list coded_ℕ) (coded⊎ (civil.the_row).coded (moment.the_row).coded)))) scal_sum scal_of_sum scal_same

abbrev leaf_sum : Leaf → Scal ⊎ (State ⊎ (List ℕ ⊎ ℕ))
leaf_sum (of_scalar x) = inl x
leaf_sum (of_state s) = inr (inl s)
leaf_sum (of_name t) = inr (inr (inl t))
leaf_sum nothing = inr (inr (inr 0))
leaf_sum is_array = inr (inr (inr 1))
leaf_sum is_object = inr (inr (inr 2))

abbrev mark : ℕ → Leaf
mark ℕ.zero = nothing
mark (ℕ.suc ℕ.zero) = is_array
mark (ℕ.suc (ℕ.suc n)) = is_object

abbrev leaf_of_sum : Scal ⊎ (State ⊎ (List ℕ ⊎ ℕ)) → Leaf
leaf_of_sum (inl x) = of_scalar x
leaf_of_sum (inr (inl s)) = of_state s
leaf_of_sum (inr (inr (inl t))) = of_name t
leaf_of_sum (inr (inr (inr n))) = mark n

leaf_same : (x : Leaf) → leaf_of_sum (leaf_sum x) ≡ x
leaf_same (of_scalar x) = refl
leaf_same (of_state s) = refl
leaf_same (of_name t) = refl
leaf_same nothing = refl
leaf_same is_array = refl
leaf_same is_object = refl

pub coded_leaf : Coded Leaf
coded_leaf =
    code_by (Scal ⊎ (State ⊎ (List ℕ ⊎ ℕ))) (coded⊎ coded_scal (coded⊎ (states.the_row).coded (coded⊎ (coded_list coded_ℕ) coded_ℕ)))
    leaf_sum leaf_of_sum leaf_same

mutual
  pub tree_pairs : Tree → Pairs Leaf
  tree_pairs nil = leaf nothing
  tree_pairs (state s) = leaf (of_state s)
  tree_pairs (scalar x) = leaf (of_scalar x)
  tree_pairs (array ts) = pair (leaf is_array) (items_pairs ts)
  tree_pairs (object ms) = pair (leaf is_object) (members_pairs ms)

  pub items_pairs : Items → Pairs Leaf
  items_pairs no_items = leaf nothing
  items_pairs (item t ts) = pair (tree_pairs t) (items_pairs ts)

  pub members_pairs : Members → Pairs Leaf
  members_pairs no_members = leaf nothing
  members_pairs (member k t ms) = pair (leaf (of_name k)) (pair (tree_pairs t) (members_pairs ms))

abbrev name_of : Pairs Leaf → List ℕ
name_of (leaf (of_name k)) = k
name_of other = []

abbrev leaf_tree : Leaf → Tree
leaf_tree (of_state s) = state s
leaf_tree (of_scalar x) = scalar x
leaf_tree other = nil

abbrev marked : Pairs Leaf → Items → Members → Tree
marked (leaf is_object) ts ms = object ms
marked other ts ms = array ts

mutual
  pub tree_back : Pairs Leaf → Tree
  tree_back (leaf x) = leaf_tree x
  tree_back (pair p q) = marked p (items_back q) (members_back q)

  pub items_back : Pairs Leaf → Items
  items_back (leaf x) = no_items
  items_back (pair p q) = item (tree_back p) (items_back q)

  pub members_back : Pairs Leaf → Members
  members_back (leaf x) = no_members
  members_back (pair p (leaf x)) = no_members
  members_back (pair p (pair q r)) = member (name_of p) (tree_back q) (members_back r)

mutual
  unfolding tree_pairs tree_back

  pub tree_same : (t : Tree) → tree_back (tree_pairs t) ≡ t
  tree_same nil = refl
  tree_same (state s) = refl
  tree_same (scalar x) = refl
  tree_same (array ts) = ap array (items_same ts)
  tree_same (object ms) = ap object (members_same ms)

  pub items_same : (ts : Items) → items_back (items_pairs ts) ≡ ts
  items_same no_items = refl
  items_same (item t ts) = ap (λ u. item u (items_back (items_pairs ts))) (tree_same t) ∙ ap (item t) (items_same ts)

  pub members_same : (ms : Members) → members_back (members_pairs ms) ≡ ms
  members_same no_members = refl
  members_same (member k t ms) = ap (λ u. member k u (members_back (members_pairs ms))) (tree_same t) ∙ ap (member k t) (members_same ms)

pub tree_code : Coded Tree
tree_code = code_by (Pairs Leaf) (coded_pairs coded_leaf) tree_pairs tree_back tree_same
