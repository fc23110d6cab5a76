-- A list of values and the items that it means, and a map's entries and its members.
use Rattle.std.proofs.Common.{
  Bor,
  ◌≡◌,
  ℕ,
  ℤ,
  zero,
  suc,
  ◌<◌,
  ◌≤◌,
  List,
  [],
  ◌∷◌,
  length,
  get_or,
  Option,
  None,
  Some,
  refl,
  ap,
  arith,
  String,
  Global,
}
use Rattle.std.specs.Prelude.{string_bytes, option_map, option_and_then, cond}
use Rattle.std.specs.BTreeMap.{is_at}
use Rattle.std.specs.Cmp.Lexicographic.{slice_cmp}
use Rattle.std.specs.Map.{lookup}
use Rattle.std.specs.Ordering.{match_ordering, nat_cmp, is_eq}
use Rattle.std.specs.declared.cmp.Ordering.{Ordering}
use Rattle.std.specs.declared.cmp.Ordering.TheVariants.{Less, Equal, Greater}
use Rattle.std.specs.Slice.{IsItemAt}
use Rattle.liquid_value.specs.meaning.Members.{item_count, get_member, member_count}
use Rattle.liquid_scalar.specs.meaning.Scalar.{integer}
use Rattle.liquid_value.specs.meaning.Cow.{cow_view}
use Rattle.liquid_value.specs.declared.cow.ValueCow.{ValueCow}
use Rattle.liquid_value.specs.declared.cow.ValueCow.TheVariants.{Owned, Borrowed}
use Rattle.liquid_value.specs.meaning.Tree.{Tree, scalar}
use Rattle.liquid_value.specs.meaning.View.{view, items_view, members_view}
use Rattle.liquid_value.specs.declared.value.Value.{Value}
use Rattle.liquid_paths.specs.meaning.InPlace.{InPlace}
use Rattle.liquid_value.specs.meaning.Place.{nth, place_at, item_at}

pub count_of_values : (vs : List Value) → item_count (items_view vs) ≡ length vs
count_of_values [] = refl
count_of_values (v ∷ vs) = ap suc (count_of_values vs)

pub count_of_members : (es : List (String Global × Value)) → member_count (members_view es) ≡ length es
count_of_members [] = refl
count_of_members (e ∷ es) = ap suc (count_of_members es)

nth_within : (xs : List Value) (k : ℕ) (x : Value) → k < length xs → x ≡ get_or xs k x → Some (view x) ≡ nth k (items_view xs)
nth_within [] k x within is = absurd (omega arith)
nth_within (y ∷ ys) zero x within is = ap (λ z. Some (view z)) is
nth_within (y ∷ ys) (suc k) x within is = nth_within ys k x (omega arith) is

nth_past : (xs : List Value) (k : ℕ) → length xs ≤ k → None ≡ nth k (items_view xs)
nth_past [] k past = refl
nth_past (y ∷ ys) zero past = absurd (omega arith)
nth_past (y ∷ ys) (suc k) past = nth_past ys k (omega arith)

pub nth_of_values : (xs : List Value) (k : ℕ) (r : Option (Bor Value)) → IsItemAt xs k r
    → option_map (λ (x : Bor Value). view x.now) r ≡ nth k (items_view xs)
nth_of_values xs k None found = nth_past xs k found.3
nth_of_values xs k (Some x) found = nth_within xs k x.now found.3.0 found.1

pub item_at_of_values : (xs : List Value) (index : ℤ) → item_at index (items_view xs) ≡ option_and_then (λ place. nth place (items_view xs))
    (place_at index (length xs))
item_at_of_values xs index = ap (λ n. option_and_then (λ place. nth place (items_view xs)) (place_at index n)) (count_of_values xs)

found_or : (o : Ordering) (v : Value) (rest : Option Value) (more : Option Tree) → option_map view rest ≡ more
    → option_map view (cond (is_eq o) (Some v) rest) ≡ match_ordering o more (Some (view v)) more
found_or Less v rest more e = e
found_or Equal v rest more e = refl
found_or Greater v rest more e = e

-- the value of a key is the member of that name
pub value_of_member : (name : List ℕ) (es : List (String Global × Value))
    → option_map view (lookup (is_at (λ k. slice_cmp nat_cmp name (string_bytes k))) es) ≡ get_member name (members_view es)
value_of_member name [] = refl
value_of_member name (e ∷ es) = found_or (slice_cmp nat_cmp name (string_bytes e.0)) e.1 _ _ (value_of_member name es)

-- a number that is made is not borrowed
pub made_in_place : (cow : ValueCow) (n : ℤ) → cow_view cow ≡ scalar (integer n) → InPlace cow
made_in_place (Owned value) n is = (n, is)
made_in_place (Borrowed value) n is = tt
