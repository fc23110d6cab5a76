-- Pieces that are joined.
use Rattle.std.proofs.Common.{◌≡◌, ℕ, List, [], ◌∷◌, ◌++◌, map, refl, sym, ap, ◌∙◌, append_assoc}
use Rattle.std.specs.List.{join_by}
use Rattle.std.proofs.lemmas.List.{map-append}
use Rattle.std.proofs.lemmas.List.Folds.{flat_map-map}

-- joining what a function gives is joining the list that it gives
pub join_by_view : {X : Type 0} (f : X → List ℕ) (sep : List ℕ) (xs : List X) → join_by f sep xs ≡ join_by (λ piece. piece) sep (map f xs)
join_by_view f sep [] = refl
join_by_view f sep (x ∷ xs) = ap (λ rest. f x ++ rest) (sym (flat_map-map (λ y. sep ++ y) f xs))

-- what a list that was pushed to gives, before what is still to come
pub pushed : {X : Type 0} (f : X → List ℕ) (old new : List X) (x : X) (piece : List ℕ) (rest whole : List (List ℕ))
    → new ≡ old ++ x ∷ [] → f x ≡ piece → map f old ++ (piece ∷ rest) ≡ whole → map f new ++ rest ≡ whole
pushed f old new x piece rest whole grown gives held =
    ap (λ xs. map f xs ++ rest) grown
    ∙ ap (λ l. l ++ rest) (map-append f old (x ∷ []))
    ∙ append_assoc (map f old) (f x ∷ []) rest
    ∙ ap (λ p. map f old ++ (p ∷ rest)) gives
    ∙ held
