-- What is removed from the items of a loop, and what is left.
use Rattle.std.proofs.Common.{
  ◌≡◌,
  ℕ,
  zero,
  suc,
  ℤ,
  pos,
  ◌+◌,
  ◌-◌,
  ◌<◌,
  ◌≤◌,
  ◌+ℤ◌,
  List,
  [],
  ◌∷◌,
  None,
  Some,
  map,
  length,
  drop,
  refl,
  sym,
  ap,
  ◌∙◌,
  add-one,
  arith,
}
use Rattle.std.specs.Prelude.{slice_get}
use Rattle.std.proofs.lemmas.List.{length-drop, length-map}
use Rattle.std.proofs.lemmas.Option.{none-some}
use Rattle.std.proofs.Common.{Global}
use Rattle.std.specs.Global.{Vec}
use Rattle.std.specs.declared.rc.Rc.{Rc}
use Rattle.liquid_scalar.specs.meaning.Scalar.{integer}
use Rattle.liquid_value.specs.meaning.Tree.{scalar}
use Rattle.liquid_value.specs.meaning.View.{view, array_view}
use Rattle.liquid_value.specs.declared.shared_array.SharedArray.{Own, Shared}
use Rattle.liquid_value.proofs.SharedLemmas.{items-Own, items-Shared}
use Rattle.liquid_value.specs.declared.value.Value.{Value}
use Rattle.liquid_tags.specs.meaning.Series.{counted, trees}
use Rattle.liquid_tags.proofs.SeriesLemmas.{trees_of}

pub counted_size : (from : ℤ) (n : ℕ) → n ≡ length (counted from n)
counted_size from zero = refl
counted_size from (suc n) = ap suc (counted_size (from +ℤ pos 1) n)

-- what is at a place is the first of what is left from there
pub at_place : {A : Type 0} (xs : List A) (place : ℕ) → slice_get (drop place xs) 0 ≡ slice_get xs place
at_place xs zero = refl
at_place [] (suc place) = refl
at_place (x ∷ xs) (suc place) = at_place xs place

pub rest_past : {A : Type 0} (xs : List A) (place : ℕ) → drop (suc place) xs ≡ drop 1 (drop place xs)
rest_past xs zero = refl
rest_past [] (suc place) = refl
rest_past (x ∷ xs) (suc place) = rest_past xs place

pub rest_after : {A : Type 0} (xs : List A) (place : ℕ) → drop (place + 1) xs ≡ drop 1 (drop place xs)
rest_after xs place = ap (λ n. drop n xs) (add-one place) ∙ rest_past xs place

pub none_after : {A : Type 0} (xs : List A) (place : ℕ) → slice_get xs place ≡ None → drop place xs ≡ drop 1 (drop place xs)
none_after [] zero none = refl
none_after [] (suc place) none = refl
none_after (x ∷ xs) zero none = absurd (none-some x (sym none))
none_after (x ∷ xs) (suc place) none = none_after xs place none

-- what is at a place of what is left from another
pub placed : {A : Type 0} (xs : List A) (place at sum : ℕ) → sum ≡ place + at → slice_get (drop place xs) at ≡ slice_get xs sum
placed xs zero at sum e = ap (slice_get xs) (omega arith)
placed [] (suc place) at sum e = refl
placed (x ∷ xs) (suc place) at zero e = absurd (omega arith)
placed (x ∷ xs) (suc place) at (suc sum) e = placed xs place at sum (omega arith)

-- the trees of a list of values, from a place on
pub left_count : (values : List Value) (place : ℕ) → length (drop place (map view values)) ≡ length values - place
left_count values place = length-drop place (map view values) ∙ ap (λ n. n - place) (length-map values view)

pub left_at : (values : List Value) (place at sum : ℕ) → sum ≡ place + at
    → slice_get (drop place (map view values)) at ≡ slice_get (map view values) sum
left_at values place at sum is = placed (map view values) place at sum is

-- the items of an array of its own, and of one that is shared
pub own_trees : (array : Vec Value) → trees (array_view (Own array)) ≡ map view array.items
own_trees array = ap trees (items-Own array) ∙ trees_of (map view array.items)

pub shared_trees : (array : Rc (Vec Value) Global) → trees (array_view (Shared array)) ≡ map view array.value.items
shared_trees array = ap trees (items-Shared array) ∙ trees_of (map view array.value.items)

pub no_number : (from : ℤ) (size : ℕ) → size < 1 → counted from size ≡ []
no_number from size below = let none : size ≡ 0 = omega arith in ap (counted from) none

number_there : (from : ℤ) (size place : ℕ) → place < size → slice_get (counted from size) place ≡ Some
    (scalar (integer (from +ℤ pos place)))
number_there from zero place below = absurd (omega arith)
number_there from (suc n) zero below = ap (λ z. Some (scalar (integer z))) (grind arith)
number_there from (suc n) (suc place) below =
    number_there (from +ℤ pos 1) n place (omega arith) ∙ ap (λ z. Some (scalar (integer z))) (grind arith)

-- the number at a place, and none after the last
pub number_at : (from number : ℤ) (size place : ℕ) → place < size → number ≡ from +ℤ pos place
    → Some (scalar (integer number)) ≡ slice_get (counted from size) place
number_at from number size place below is = ap (λ z. Some (scalar (integer z))) is ∙ sym (number_there from size place below)

pub number_past : (from : ℤ) (size place : ℕ) → size ≤ place → None ≡ slice_get (counted from size) place
number_past from zero place past = refl
number_past from (suc n) zero past = absurd (omega arith)
number_past from (suc n) (suc place) past = number_past (from +ℤ pos 1) n place (omega arith)
