-- The places of the layers that pass a test.
use Rattle.std.proofs.Common.{
  ◌≡◌,
  ℕ,
  suc,
  ◌+◌,
  ◌-◌,
  ◌<◌,
  List,
  [],
  ◌∷◌,
  ◌++◌,
  length,
  map,
  Option,
  None,
  Some,
  Bool,
  true,
  false,
  cond,
  refl,
  sym,
  ap,
  ◌∙◌,
  arith,
}
use Rattle.std.proofs.Math.ListN.{set}
use Rattle.std.proofs.lemmas.Option.{slice_get-get_or}
use Rattle.std.specs.Prelude.{option_map}
use Rattle.std.specs.List.{slice_get}
use Rattle.std.specs.Option.{option_or}
use Rattle.std.specs.FinMap.{insert}
use Rattle.liquid_value.specs.meaning.Tree.{Tree}
use Rattle.liquid_runtime.specs.meaning.Maps.{Names}
use Rattle.liquid_scopes.specs.steps.Layers.{
  Layer,
  none_layer,
  stack_layer,
  global_layer,
  sandboxed_layer,
  isolated_layer,
  is_global,
  assigned,
  assigning,
  GlobalAt,
  LastGlobal,
}
use Rattle.liquid_scopes.specs.steps.Standing.{last_place, places_where, is_sandboxed}
use Rattle.liquid_scopes.proofs.LayerLaws.{map_append, map_length, set_put}

some_or : (o p : Option ℕ) (i : ℕ) → o ≡ Some i → o ≡ option_or o p
some_or o p i e = e ∙ sym (ap (λ k. option_or k p) e)

last-cons : (x : ℕ) (xs : List ℕ) → slice_get (x ∷ xs) (length (x ∷ xs) - 1) ≡ option_or (slice_get xs (length xs - 1)) (Some x)
last-cons x [] = let e : length (x ∷ []) - 1 ≡ 0 = omega arith in ap (slice_get (x ∷ [])) e
last-cons x (y ∷ ys) =
    let e : length (x ∷ y ∷ ys) - 1 ≡ suc (length (y ∷ ys) - 1) = omega arith in
    let h : length (y ∷ ys) - 1 < length (y ∷ ys) = omega arith in
    ap (slice_get (x ∷ y ∷ ys)) e ∙ some_or (slice_get (y ∷ ys) (length (y ∷ ys) - 1)) (Some x) _
    (slice_get-get_or (y ∷ ys) (length (y ∷ ys) - 1) 0 h)

place_or : (n : ℕ) (S : Option ℕ) → option_or (option_map (λ i. suc n + i) S) (Some n) ≡ option_map (λ i. n + i)
    (option_or (option_map (λ i. suc i) S) (Some 0))
place_or n None = let e : n ≡ n + 0 = omega arith in ap (λ i. Some i) e
place_or n (Some i) = let e : suc n + i ≡ n + suc i = omega arith in ap (λ k. Some k) e

place_later : (n : ℕ) (S : Option ℕ) → option_map (λ i. suc n + i) S ≡ option_map (λ i. n + i) (option_or (option_map (λ i. suc i) S) None)
place_later n None = refl
place_later n (Some i) = let e : suc n + i ≡ n + suc i = omega arith in ap (λ k. Some k) e

last_joined : (b : Bool) (n : ℕ) (R : List ℕ) (S : Option ℕ) → slice_get R (length R - 1) ≡ option_map (λ i. suc n + i) S
    → slice_get (cond b (n ∷ R) R) (length (cond b (n ∷ R) R) - 1) ≡ option_map (λ i. n + i)
    (option_or (option_map (λ i. suc i) S) (cond b (Some 0) None))
last_joined true n R S e = last-cons n R ∙ ap (λ o. option_or o (Some n)) e ∙ place_or n S
last_joined false n R S e = e ∙ place_later n S

from_zero : (S : Option ℕ) → option_map (λ i. 0 + i) S ≡ S
from_zero None = refl
from_zero (Some i) = let e : 0 + i ≡ i = omega arith in ap (λ k. Some k) e

cond_front : (b : Bool) (n : ℕ) (R T : List ℕ) → cond b (n ∷ (R ++ T)) (R ++ T) ≡ cond b (n ∷ R) R ++ T
cond_front true n R T = refl
cond_front false n R T = refl

module _ {V : Type 0} (P : Layer V → Bool) where
  places-push : (n : ℕ) (ls : List (Layer V)) (l : Layer V) → places_where P n (ls ++ l ∷ []) ≡ places_where P n ls
      ++ cond (P l) ((n + length ls) ∷ []) []
  places-push n [] l = let e : n ≡ n + 0 = omega arith in ap (λ k. cond (P l) (k ∷ []) []) e
  places-push n (m ∷ ls) l =
      let e : suc n + length ls ≡ n + suc (length ls) = omega arith in
      ap (λ R. cond (P m) (n ∷ R) R) (places-push (suc n) ls l ∙ ap (λ k. places_where P (suc n) ls ++ cond (P l) (k ∷ []) []) e)
      ∙ cond_front (P m) n (places_where P (suc n) ls) (cond (P l) ((n + suc (length ls)) ∷ []) [])

  last_where : (n : ℕ) (ls : List (Layer V)) → slice_get (places_where P n ls) (length (places_where P n ls) - 1) ≡ option_map (λ i. n + i)
      (last_place P ls)
  last_where n [] = refl
  last_where n (l ∷ ls) = last_joined (P l) n (places_where P (suc n) ls) (last_place P ls) (last_where (suc n) ls)

  -- the last of the places
  pub last_of_places : (ls : List (Layer V)) (xs : List ℕ) → xs ≡ places_where P 0 ls → slice_get xs (length xs - 1) ≡ last_place P ls
  last_of_places ls xs e = ap (λ ys. slice_get ys (length ys - 1)) e ∙ last_where 0 ls ∙ from_zero (last_place P ls)

  places-same : (k : ℕ) (before after : List (Layer V)) (l m : Layer V) → P l ≡ P m
      → places_where P k (before ++ l ∷ after) ≡ places_where P k (before ++ m ∷ after)
  places-same k [] after l m s = ap (λ b. cond b (k ∷ places_where P (suc k) after) (places_where P (suc k) after)) s
  places-same k (x ∷ before) after l m s = ap (λ R. cond (P x) (k ∷ R) R) (places-same (suc k) before after l m s)

  module _ {X : Type 0} (f : X → Layer V) where
    pub kept_place : (xs ys : List X) (x : X) (n : ℕ) (old new : List ℕ) → ys ≡ xs ++ x ∷ [] → n ≡ length xs
        → old ≡ places_where P 0 (map f xs) → new ≡ old ++ cond (P (f x)) (n ∷ []) [] → new ≡ places_where P 0 (map f ys)
    kept_place xs ys x n old new is e was h =
        let k : n ≡ 0 + length (map f xs) = omega (arith, e, map_length f xs) in
        h ∙ ap (λ R. R ++ cond (P (f x)) (n ∷ []) []) was ∙ ap (λ i. places_where P 0 (map f xs) ++ cond (P (f x)) (i ∷ []) []) k
        ∙ sym (ap (places_where P 0) (ap (map f) is ∙ map_append f xs (x ∷ [])) ∙ places-push 0 (map f xs) (f x))

    pub dropped_place : (xs ys : List X) (x : X) (old new : List ℕ) → xs ≡ ys ++ x ∷ [] → old ≡ places_where P 0 (map f xs)
        → ((kept : List ℕ) (place : ℕ) → old ≡ kept ++ cond (P (f x)) (place ∷ []) [] → new ≡ kept) → new ≡ places_where P 0 (map f ys)
    dropped_place xs ys x old new is was h =
        h (places_where P 0 (map f ys)) (0 + length (map f ys)) (was ∙ ap (places_where P 0) (ap (map f) is ∙ map_append f ys (x ∷ []))
        ∙ places-push 0 (map f ys) (f x))

    pub put_places : ((m : Names) (l : Layer V) → P (assigning m l) ≡ P l)
        → (xs : List X) (i : ℕ) (x : X) (k : List ℕ) (t : Tree) (p : GlobalAt (map f xs) i)
        → f x ≡ assigning (insert (assigned p.layer) k t) p.layer → places_where P 0 (map f (set xs i x)) ≡ places_where P 0 (map f xs)
    put_places s xs i x k t p a =
        let m = insert (assigned p.layer) k t in
        ap (places_where P 0) (set_put f xs i x k t p a) ∙ places-same 0 p.before p.after (assigning m p.layer) p.layer (s m p.layer)
        ∙ sym (ap (places_where P 0) p.is)

-- assigning in a layer makes it neither global nor sandboxed
pub assigning_sandboxed : {V : Type 0} (m : Names) (l : Layer V) → is_sandboxed (assigning m l) ≡ is_sandboxed l
assigning_sandboxed m none_layer = refl
assigning_sandboxed m (stack_layer d n) = refl
assigning_sandboxed m (global_layer g) = refl
assigning_sandboxed m (sandboxed_layer d n s) = refl
assigning_sandboxed m (isolated_layer d g n s) = refl

pub assigning_global : {V : Type 0} (m : Names) (l : Layer V) → is_global (assigning m l) ≡ is_global l
assigning_global m none_layer = refl
assigning_global m (stack_layer d n) = refl
assigning_global m (global_layer g) = refl
assigning_global m (sandboxed_layer d n s) = refl
assigning_global m (isolated_layer d g n s) = refl

module _ {V : Type 0} where
  global_step : (l : Layer V) (ls : List (Layer V)) (o : Option ℕ) → LastGlobal ls o
      → LastGlobal (l ∷ ls) (option_or (option_map (λ i. suc i) o) (cond (is_global l) (Some 0) None))
  global_step l ls (Some i) p =
      record {
        before = l ∷ p.before;
        layer = p.layer;
        after = p.after;
        is = ap (λ xs. l ∷ xs) p.is;
        global = p.global;
        place = ap suc p.place;
        plain = p.plain;
      }
  global_step none_layer ls None p = (refl, p)
  global_step (stack_layer d n) ls None p = (refl, p)
  global_step (global_layer g) ls None p =
      record { before = []; layer = global_layer g; after = ls; is = refl; global = refl; place = refl; plain = p }
  global_step (sandboxed_layer d n s) ls None p = (refl, p)
  global_step (isolated_layer d g n s) ls None p =
      record { before = []; layer = isolated_layer d g n s; after = ls; is = refl; global = refl; place = refl; plain = p }

  pub last_global_is : (ls : List (Layer V)) → LastGlobal ls (last_place is_global ls)
  last_global_is [] = tt
  last_global_is (l ∷ ls) = global_step l ls (last_place is_global ls) (last_global_is ls)
