-- Pieces are marked from the last one to the first.
use Rattle.std.proofs.Common.{
  ◌≡◌,
  Bool,
  List,
  [],
  ◌∷◌,
  ◌++◌,
  map,
  reverse,
  refl,
  sym,
  ap,
  ◌∙◌,
  append_assoc,
  append-nil,
}
use Rattle.std.proofs.lemmas.List.{reverse-append, reverse-reverse}
use Rattle.jekyll_source.specs.meaning.Blank.{Marked, blank_before, blank_ends, mark, marked}
use Rattle.jekyll_source.specs.meaning.Piece.{Piece}
use Rattle.jekyll_source.specs.steps.Backwards.{marked_back}

-- what is marked so far, and what is left to mark, are all pieces marked
back_is_marked : (before after : List Piece) → marked_back before (blank_ends after) (marked after) ≡ marked (reverse before ++ after)
back_is_marked [] after = refl
back_is_marked (p ∷ before) after =
    let step : marked_back (p ∷ before) (blank_ends after) (marked after) ≡ marked (reverse before ++ (p ∷ after)) =
    back_is_marked before (p ∷ after) in
    let joined : (reverse before ++ p ∷ []) ++ after ≡ reverse before ++ (p ∷ after) = append_assoc (reverse before) (p ∷ []) after in
    let turned : reverse (p ∷ before) ≡ reverse before ++ p ∷ [] = reverse-append (p ∷ []) before in
    step ∙ ap (λ l. marked l) (sym (ap (λ l. l ++ after) turned ∙ joined))

pub all_marked : (ps : List Piece) → marked_back (reverse ps) [] [] ≡ marked ps
all_marked ps =
    back_is_marked (reverse ps) [] ∙ ap (λ l. marked l) (append-nil (reverse (reverse ps)) ∙ reverse-reverse ps)
