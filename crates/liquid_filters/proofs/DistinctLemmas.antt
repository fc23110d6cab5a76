-- The entries whose key was not seen.
use Rattle.std.proofs.Common.{
  ◌≡◌,
  Bool,
  true,
  false,
  not,
  ◌&&◌,
  ◌||◌,
  cond,
  List,
  [],
  ◌∷◌,
  filter,
  ◌++◌,
  map,
  append_assoc,
  refl,
  sym,
  ap,
  ◌∙◌,
  inl,
  inr,
}
use Rattle.std.specs.List.{list_any}
use Rattle.std.specs.Borrow.{Bor}
use Rattle.std.specs.List.Sorted.{IsPermutation}
use Rattle.std.proofs.lemmas.Bool.{cases_Bool, cond-true, cond-false}
use Rattle.std.proofs.lemmas.List.Sorted.{list_any-IsPermutation}
use Rattle.liquid_value.specs.declared.value.Value.{Value}
use Rattle.liquid_value.specs.meaning.Strict.{same_value}
use Rattle.liquid_value.specs.meaning.Tree.{Tree}
use Rattle.liquid_value.specs.meaning.View.{view}
use Rattle.liquid_value.specs.steps.StrictLawProofs.{same_value_equiv}
use Rattle.liquid_filters.specs.meaning.list.Choices.{distinct, items_in}

-- whether a key is the same as one that was seen
abbrev pub is_seen : List (Bor Value) → Tree → Bool
is_seen keys t = list_any (λ r. same_value t (view r.now)) keys

-- the entries whose key was not seen
abbrev pub unseen : List (Bor Value) → List (Tree × Tree) → List (Tree × Tree)
unseen keys es = filter (λ e. not (is_seen keys e.0)) es

filter-both : {X : Type 0} (p q r : X → Bool) → ((x : X) → r x ≡ (q x && p x)) → (xs : List X) → filter p (filter q xs) ≡ filter r xs
filter-both p q r both [] = refl
filter-both p q r both (x ∷ xs) = elim (cases_Bool (q x)) [
  | inl passes ↦
      ap (filter p) (cond-true _ _ _ passes) ∙ ap (λ l. cond (p x) (x ∷ l) l) (filter-both p q r both xs)
      ∙ ap (λ b. cond b (x ∷ filter r xs) (filter r xs)) (sym (both x ∙ ap (λ b. b && p x) passes))
  | inr fails ↦
      ap (filter p) (cond-false _ _ _ fails) ∙ filter-both p q r both xs
      ∙ sym (cond-false _ _ _ (both x ∙ ap (λ b. b && p x) fails))
]

any_alike : (p q : Bor Value → Bool) → ((r : Bor Value) → p r ≡ q r) → (keys : List (Bor Value)) → list_any p keys ≡ list_any q keys
any_alike p q same [] = refl
any_alike p q same (r ∷ rs) = ap (λ b. b || list_any p rs) (same r) ∙ ap (λ b. q r || b) (any_alike p q same rs)

neither : (a b : Bool) → not (a || b) ≡ (not a && not b)
neither true b = refl
neither false b = refl

-- a key that is the same as one that was seen was seen, too
is_seen-alike : (keys : List (Bor Value)) (t u : Tree) → same_value t u ≡ true → is_seen keys t ≡ is_seen keys u
is_seen-alike keys t u same = any_alike _ _ (λ r. same_value_equiv.congr t u (view r.now) same) keys

seen_without : (keys : List (Bor Value)) (t u : Tree) → is_seen keys t ≡ true
    → not (is_seen keys u) ≡ (not (same_value t u) && not (is_seen keys u))
seen_without keys t u seen = elim (cases_Bool (same_value t u)) [
  | inl same ↦ ap not (sym (is_seen-alike keys t u same) ∙ seen) ∙ sym (ap (λ b. not b && not (is_seen keys u)) same)
  | inr other ↦ sym (ap (λ b. not b && not (is_seen keys u)) other)
]

-- an entry with a key that was seen is left out, and no other with it
pub unseen-old : (keys : List (Bor Value)) (e : Tree × Tree) (es : List (Tree × Tree)) → is_seen keys e.0 ≡ true
    → unseen keys (distinct (e ∷ es)) ≡ unseen keys (distinct es)
unseen-old keys e es seen =
    cond-false _ _ _ (ap not seen)
    ∙ filter-both _ _ _ (λ other. seen_without keys e.0 other.0 seen) (distinct es)

-- an entry with a key that was not seen stays, and its key is seen from then on
pub unseen-new : (keys more : List (Bor Value)) (k : Bor Value) (e : Tree × Tree) (es : List (Tree × Tree)) → IsPermutation (k ∷ keys) more
    → view k.now ≡ e.0 → is_seen keys e.0 ≡ false → unseen keys (distinct (e ∷ es)) ≡ e ∷ unseen more (distinct es)
unseen-new keys more k e es moved key new =
    let seen_now : (u : Tree) → is_seen more u ≡ (same_value e.0 u || is_seen keys u) =
    λ u. sym (list_any-IsPermutation (λ r. same_value u (view r.now)) (k ∷ keys) more moved)
    ∙ ap (λ b. b || is_seen keys u) (ap (same_value u) key ∙ same_value_equiv.symm u e.0) in
    cond-true _ _ _ (ap not new)
    ∙ ap (λ l. e ∷ l) (filter-both _ _ _ (λ other. ap not (seen_now other.0) ∙ neither (same_value e.0 other.0) (is_seen keys other.0))
    (distinct es))

pub unseen-none : (es : List (Tree × Tree)) → unseen [] es ≡ es
unseen-none [] = refl
unseen-none (e ∷ es) = ap (λ l. e ∷ l) (unseen-none es)

-- before the first entry nothing was kept and nothing was seen
pub kept-start : (kept : List Value) (keys : List (Bor Value)) (es : List (Tree × Tree)) → kept ≡ [] → keys ≡ [] → map view kept
    ++ items_in (unseen keys (distinct es)) ≡ items_in (distinct es)
kept-start kept keys es none unread =
    ap (λ l. map view l ++ items_in (unseen keys (distinct es))) none ∙ ap (λ l. items_in (unseen l (distinct es))) unread
    ∙ ap items_in (unseen-none (distinct es))

-- an entry with a new key is kept
pub kept-new : (kept after : List Tree) (keys more : List (Bor Value)) (k : Bor Value) (e : Tree × Tree) (es : List (Tree × Tree))
    (all : List Tree) → after ≡ kept ++ e.1 ∷ [] → IsPermutation (k ∷ keys) more → view k.now ≡ e.0 → is_seen keys e.0 ≡ false → kept
    ++ items_in (unseen keys (distinct (e ∷ es))) ≡ all → after ++ items_in (unseen more (distinct es)) ≡ all
kept-new kept after keys more k e es all pushed moved key new so_far =
    ap (λ l. l ++ items_in (unseen more (distinct es))) pushed ∙ append_assoc kept (e.1 ∷ []) _
    ∙ ap (λ l. kept ++ items_in l) (sym (unseen-new keys more k e es moved key new)) ∙ so_far

-- an entry with a key that was seen is skipped
pub kept-old : (kept : List Tree) (keys more : List (Bor Value)) (e : Tree × Tree) (es : List (Tree × Tree)) (all : List Tree) → more ≡ keys
    → is_seen keys e.0 ≡ true → kept ++ items_in (unseen keys (distinct (e ∷ es))) ≡ all → kept
    ++ items_in (unseen more (distinct es)) ≡ all
kept-old kept keys more e es all same seen so_far =
    ap (λ l. kept ++ items_in (unseen l (distinct es))) same ∙ ap (λ l. kept ++ items_in l) (sym (unseen-old keys e es seen)) ∙ so_far
