-- What a loop has found so far, and what is still to come.
use Rattle.std.proofs.Common.{◌≡◌, ◌+◌, List, [], ◌∷◌, ◌++◌, map, reverse, refl, sym, ap, ◌∙◌, Result, Ok}
use Rattle.std.proofs.lemmas.List.{reverse-append}
use Rattle.liquid_error.specs.meaning.Refusal.{Refusal, ok_then}

-- what comes after what was found, if there is no error
abbrev pub after : {X : Type 0} → List X → Result (List X) Refusal → Result (List X) Refusal
after front r = ok_then r (λ xs. Ok (front ++ xs))

map-append : {A B : Type 0} (f : A → B) (xs ys : List A) → map f (xs ++ ys) ≡ map f xs ++ map f ys
map-append f [] ys = refl
map-append f (x ∷ xs) ys = ap (λ l. f x ∷ l) (map-append f xs ys)

-- the meaning of a reversed list is the reversed meaning of the list
pub map_reverse : {A B : Type 0} (f : A → B) (xs : List A) → map f (reverse xs) ≡ reverse (map f xs)
map_reverse f [] = refl
map_reverse f (x ∷ xs) =
    ap (map f) (reverse-append (x ∷ []) xs) ∙ map-append f (reverse xs) (x ∷ []) ∙ ap (λ l. l ++ f x ∷ []) (map_reverse f xs)
    ∙ sym (reverse-append (f x ∷ []) (map f xs))
