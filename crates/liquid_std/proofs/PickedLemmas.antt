-- What is taken out of picked items, and what is left.
use Rattle.std.proofs.Common.{
  ◌≡◌,
  ℕ,
  zero,
  suc,
  ℤ,
  ◌+◌,
  ◌-◌,
  ◌<◌,
  ◌≤◌,
  ◌+ℤ◌,
  List,
  [],
  ◌∷◌,
  ◌++◌,
  Bool,
  true,
  false,
  Option,
  None,
  Some,
  length,
  drop,
  refl,
  sym,
  ap,
  ◌∙◌,
  subst,
  add-one,
  arith,
}
use Rattle.std.specs.Prelude.{slice_get, take, reverse, min}
use Rattle.std.proofs.lemmas.List.{length-reverse, reverse-append, length-drop, length-take, take_min, drop-append-le}
use Rattle.std.proofs.Math.ListN.{drop_of_length-le}
use Rattle.std.proofs.Math.Seq.{take-length}
use Rattle.liquid_std.specs.meaning.iteration.Picked.{in_order, natural, picked}
use Rattle.liquid_tags.proofs.LoopItems.{placed, rest_past}

-- what is at a place before an end
taken_at : {A : Type 0} (xs : List A) (to at : ℕ) → at < to → slice_get (take to xs) at ≡ slice_get xs at
taken_at [] zero at below = refl
taken_at [] (suc to) at below = refl
taken_at (x ∷ xs) zero at below = absurd (omega arith)
taken_at (x ∷ xs) (suc to) zero below = refl
taken_at (x ∷ xs) (suc to) (suc at) below = taken_at xs to at (omega arith)

-- the items up to a place are those before it and the one at it
taken_last : {A : Type 0} (xs : List A) (last : ℕ) (x : A) → slice_get xs last ≡ Some x → take (suc last) xs ≡ take last xs ++ x ∷ []
taken_last [] last x is = cc
taken_last (y ∷ ys) zero x is = cc
taken_last (y ∷ ys) (suc last) x is = ap (λ zs. y ∷ zs) (taken_last ys last x is)

within : {A : Type 0} (xs : List A) (at : ℕ) → at < length xs → (x : A) × (slice_get xs at ≡ Some x)
within [] at below = absurd (omega arith)
within (x ∷ xs) zero below = (x, refl)
within (x ∷ xs) (suc at) below = within xs at (omega arith)

module _ {A : Type 0} (xs : List A) (from to : ℕ) where
  abbrev between : ℕ → ℕ → List A
  between from to = drop from (take to xs)

  between_length : length (drop from (take to xs)) ≡ min to (length xs) - from
  between_length = length-drop from (take to xs) ∙ ap (λ n. n - from) (length-take to xs)

  none_between : min to (length xs) ≤ from → drop from (take to xs) ≡ []
  none_between past = drop_of_length-le (take to xs) (subst (λ n. n ≤ from) (sym (length-take to xs)) past)

  first_between : from < min to (length xs) → slice_get (drop from (take to xs)) 0 ≡ slice_get xs from
  first_between below = placed (take to xs) from 0 from (omega arith) ∙ taken_at xs to from (omega arith)

  -- the items between two places are those up to the last one, and that one
  last_between : (last : ℕ) (x : A) → from ≤ last → suc last ≡ min to (length xs) → slice_get xs last ≡ Some x
      → drop from (take to xs) ≡ drop from (take last xs) ++ x ∷ []
  last_between last x below is at =
      ap (drop from) (sym (take_min to xs) ∙ ap (λ n. take n xs) (sym is) ∙ taken_last xs last x at)
      ∙ drop-append-le from (take last xs) (x ∷ []) (subst (λ n. from ≤ n) (sym (length-take last xs)) (omega arith))

  reversed_first : (last : ℕ) (x : A) → from ≤ last → suc last ≡ min to (length xs) → slice_get xs last ≡ Some x
      → reverse (drop from (take to xs)) ≡ x ∷ reverse (drop from (take last xs))
  reversed_first last x below is at = ap reverse (last_between last x below is at) ∙ reverse-append (drop from (take last xs)) (x ∷ [])

-- the items that are picked, by the places at which they begin and end
pub picked_all : {A : Type 0} (offset : ℤ) (from to : ℕ) (rev : Bool) (xs : List A) → from ≡ natural offset → to ≡ length xs
    → in_order rev (drop from (take to xs)) ≡ picked offset None rev xs
picked_all offset from to rev xs starts ends =
    ap (λ n. in_order rev (drop n (take to xs))) starts ∙ ap (λ ys. in_order rev (drop (natural offset) ys))
    (ap (λ n. take n xs) ends ∙ take-length xs)

pub picked_some : {A : Type 0} (offset limit : ℤ) (from to : ℕ) (rev : Bool) (xs : List A) → from ≡ natural offset
    → to ≡ natural (offset +ℤ limit)
    → in_order rev (drop from (take to xs)) ≡ picked offset (Some limit) rev xs
picked_some offset limit from to rev xs starts ends =
    ap (λ n. in_order rev (drop n (take to xs))) starts ∙ ap (λ n. in_order rev (drop (natural offset) (take n xs))) ends

ordered_length : {A : Type 0} (rev : Bool) (xs : List A) → length (in_order rev xs) ≡ length xs
ordered_length false xs = refl
ordered_length true xs = length-reverse xs

pub picked_length : {A : Type 0} (from to : ℕ) (rev : Bool) (xs : List A)
    → length (in_order rev (drop from (take to xs))) ≡ min to (length xs) - from
picked_length from to rev xs = ordered_length rev (drop from (take to xs)) ∙ between_length xs from to

ordered_none : {A : Type 0} (rev : Bool) (xs : List A) → xs ≡ [] → in_order rev xs ≡ []
ordered_none false xs none = none
ordered_none true xs none = ap reverse none

pub none_first : {A : Type 0} (from to : ℕ) (rev : Bool) (xs : List A) → min to (length xs) ≤ from
    → None ≡ slice_get (in_order rev (drop from (take to xs))) 0
none_first from to rev xs past = sym (ap (λ ys. slice_get ys 0) (ordered_none rev (drop from (take to xs)) (none_between xs from to past)))

pub none_following : {A : Type 0} (from to : ℕ) (rev : Bool) (xs : List A) → min to (length xs) ≤ from
    → in_order rev (drop from (take to xs)) ≡ drop 1 (in_order rev (drop from (take to xs)))
none_following from to rev xs past =
    let none = ordered_none rev (drop from (take to xs)) (none_between xs from to past) in
    none ∙ sym (ap (drop 1) none)

pub forward_first : {A : Type 0} (from to : ℕ) (rev : Bool) (xs : List A) (o : Option A) → rev ≡ false → from < min to (length xs)
    → o ≡ slice_get xs from
    → o ≡ slice_get (in_order rev (drop from (take to xs))) 0
forward_first from to false xs o is below at = at ∙ sym (first_between xs from to below)
forward_first from to true xs o is below at = cc

pub forward_after : {A : Type 0} (from to : ℕ) (rev : Bool) (xs : List A) → rev ≡ false
    → in_order rev (drop (from + 1) (take to xs)) ≡ drop 1 (in_order rev (drop from (take to xs)))
forward_after from to false xs is = ap (λ n. drop n (take to xs)) (add-one from) ∙ rest_past (take to xs) from
forward_after from to true xs is = cc

pub backward_first : {A : Type 0} (from to end last : ℕ) (rev : Bool) (xs : List A) (o : Option A) → rev ≡ true → end ≡ min to (length xs)
    → from < end → last ≡ end - 1
    → o ≡ slice_get xs last → o ≡ slice_get (in_order rev (drop from (take to xs))) 0
backward_first from to end last false xs o is ends below before at = cc
backward_first from to end last true xs o is ends below before at =
    let found = within xs last (omega arith) in
    at ∙ found.1 ∙ sym (ap (λ ys. slice_get ys 0) (reversed_first xs from to last found.0 (omega arith) (omega arith) found.1))

pub backward_after : {A : Type 0} (from to end last : ℕ) (rev : Bool) (xs : List A) → rev ≡ true → end ≡ min to (length xs) → from < end
    → last ≡ end - 1
    → in_order rev (drop from (take last xs)) ≡ drop 1 (in_order rev (drop from (take to xs)))
backward_after from to end last false xs is ends below before = cc
backward_after from to end last true xs is ends below before =
    let found = within xs last (omega arith) in
    sym (ap (drop 1) (reversed_first xs from to last found.0 (omega arith) (omega arith) found.1))

-- the first item, and those after it
pub ruleset taken = (none_first, none_following, forward_first, forward_after, backward_first, backward_after)
