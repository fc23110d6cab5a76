-- A list and the items that it means.
use Rattle.std.proofs.Common.{
  Bor,
  ◌≡◌,
  ℕ,
  zero,
  suc,
  ◌+◌,
  ◌<◌,
  ◌≤◌,
  List,
  [],
  ◌∷◌,
  ◌++◌,
  length,
  drop,
  get_or,
  Option,
  None,
  Some,
  refl,
  sym,
  ap,
  ◌∙◌,
  append_assoc,
  add-one,
  arith,
  rules,
}
use borrow.Author.Tests.{ltb-true}
use Rattle.std.specs.Prelude.{◌==◌, ◌-◌, Bool, true, false, nat_lt, is_some, if◌then◌else◌, ℤ, pos, negsuc, option_map, option_and_then}
use Rattle.std.proofs.Math.Seq.{drop-cons}
use Rattle.liquid_value.specs.meaning.Kind.{has_no_items}
use Rattle.liquid_value.specs.meaning.Members.{item_count}
use Rattle.liquid_value.specs.meaning.Tree.{Tree, Items, no_items, item}
use Rattle.std.specs.Slice.{IsItemAt}
use Rattle.liquid_value.specs.meaning.Place.{nth, place_at, item_at}
use Rattle.liquid_views.specs.meaning.Trees.{items_by}

pub has_no_items_of_list : {T : Type 0} (tree : T → Tree) (xs : List T) → has_no_items (items_by tree xs) ≡ (length xs == 0)
has_no_items_of_list tree [] = refl
has_no_items_of_list tree (x ∷ xs) = search rules

pub count_of_list : {T : Type 0} (tree : T → Tree) (xs : List T) → item_count (items_by tree xs) ≡ length xs
count_of_list tree [] = refl
count_of_list tree (x ∷ xs) = ap suc (count_of_list tree xs)

pub items_by-drop : {T : Type 0} (tree : T → Tree) (xs : List T) (i : ℕ) (x : T) → i < length xs → x ≡ get_or xs i x
    → items_by tree (drop i xs) ≡ item (tree x) (items_by tree (drop (i + 1) xs))
items_by-drop tree xs i x within is = ap (items_by tree) (drop-cons xs i x within) ∙ rw (add-one, ← is)

-- the text of the items so far and the text of this one, before the text of the later ones
pub list_turn : {T : Type 0} (tree : T → Tree) (text : Items → List ℕ) (piece : Tree → List ℕ)
    → ((t : Tree) (ts : Items) → text (item t ts) ≡ piece t ++ text ts)
    → (whole done : List ℕ) (xs : List T) (i : ℕ) (x : T) → i < length xs → x ≡ get_or xs i x
    → whole ≡ done ++ text (items_by tree (drop i xs)) → whole ≡ (done ++ piece (tree x)) ++ text (items_by tree (drop (i + 1) xs))
list_turn tree text piece step whole done xs i x within is e =
    e ∙ ap (λ ts. done ++ text ts) (items_by-drop tree xs i x within is) ∙ ap (λ more. done ++ more) (step _ _)
    ∙ sym (append_assoc done (piece (tree x)) _)

nth_within : {T : Type 0} (tree : T → Tree) (xs : List T) (k : ℕ) (x : T) → k < length xs → x ≡ get_or xs k x
    → Some (tree x) ≡ nth k (items_by tree xs)
nth_within tree [] k x within is = absurd (omega arith)
nth_within tree (y ∷ ys) zero x within is = ap (λ z. Some (tree z)) is
nth_within tree (y ∷ ys) (suc k) x within is = nth_within tree ys k x (omega arith) is

nth_past : {T : Type 0} (tree : T → Tree) (xs : List T) (k : ℕ) → length xs ≤ k → None ≡ nth k (items_by tree xs)
nth_past tree [] k past = refl
nth_past tree (y ∷ ys) zero past = absurd (omega arith)
nth_past tree (y ∷ ys) (suc k) past = nth_past tree ys k (omega arith)

-- what a slice gives at a place is the item at that place
pub nth_of_slice : {T : Type 0} (tree : T → Tree) (xs : List T) (k : ℕ) (r : Option (Bor T)) → IsItemAt xs k r
    → option_map (λ (x : Bor T). tree x.now) r ≡ nth k (items_by tree xs)
nth_of_slice tree xs k None found = nth_past tree xs k found.3
nth_of_slice tree xs k (Some x) found = nth_within tree xs k x.now found.3.0 found.1

-- the item at an index of a list
pub item_at_of_list : {T : Type 0} (tree : T → Tree) (xs : List T) (index : ℤ) (length : ℕ) → length ≡ item_count (items_by tree xs)
    → item_at index (items_by tree xs) ≡ option_and_then (λ place. nth place (items_by tree xs)) (place_at index length)
item_at_of_list tree xs index length is = ap (λ n. option_and_then (λ place. nth place (items_by tree xs)) (place_at index n)) (sym is)

there : (k : ℕ) (ts : Items) → k < item_count ts → is_some (nth k ts) ≡ true
there k no_items within = absurd (omega arith)
there zero (item t ts) within = refl
there (suc k) (item t ts) within = there k ts (omega arith)

within_count : (k n : ℕ) (b : Bool) → nat_lt k n ≡ b → (ts : Items) → item_count ts ≡ n
    → is_some (if b then Some k else None) ≡ is_some (option_and_then (λ place. nth place ts) (if b then Some k else None))
within_count k n true e ts size = let within : k < item_count ts = rw size (ltb-true k n e) in sym (there k ts within)
within_count k n false e ts size = refl

after_end : (k n : ℕ) (b : Bool) → nat_lt k n ≡ b → (ts : Items) → item_count ts ≡ n
    → is_some (if b then Some (n - suc k) else None) ≡ is_some (option_and_then (λ place. nth place ts)
    (if b then Some (n - suc k) else None))
after_end k n true e ts size =
    let low : k < n = ltb-true k n e in
    let within : n - suc k < item_count ts = rw size (omega arith) in
    sym (there (n - suc k) ts within)
after_end k n false e ts size = refl

-- an index is known exactly if there is an item at it
pub contains_where_get : (index : ℤ) (ts : Items) → is_some (place_at index (item_count ts)) ≡ is_some (item_at index ts)
contains_where_get (pos k) ts = within_count k (item_count ts) _ refl ts refl
contains_where_get (negsuc k) ts = after_end k (item_count ts) _ refl ts refl
