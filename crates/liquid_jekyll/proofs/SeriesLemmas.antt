-- Items of a sentence, of which the last one has a word before it.
use Rattle.std.proofs.Common.{◌≡◌, ℕ, List, [], ◌∷◌, ◌++◌, map, ◌≤◌, length, drop, refl, sym, ap, ◌∙◌, append_assoc, append-nil}
use Rattle.std.proofs.lemmas.List.{drop_all}
use Rattle.std.specs.Prelude.{codes}
use Rattle.std.specs.List.{flat_map}
use Rattle.liquid_value.specs.meaning.Render.{render}
use Rattle.liquid_value.specs.meaning.Tree.{Tree}
use Rattle.liquid_jekyll.specs.meaning.value.Lists.{series}

-- an item before another one
abbrev pub listed : Tree → List ℕ
listed t = render t ++ codes ", "

-- a series by its last item
pub series_last : (by : List ℕ) (ts : List Tree) (last : Tree)
    → series by (ts ++ (last ∷ [])) ≡ flat_map listed ts ++ (by ++ (codes " " ++ render last))
series_last by [] last = refl
series_last by (t ∷ []) last =
    ap (λ l. render t ++ (codes ", " ++ l)) (series_last by [] last)
    ∙ sym (append_assoc (render t) (codes ", ") (by ++ (codes " " ++ render last)))
    ∙ sym (append_assoc (listed t) [] (by ++ (codes " " ++ render last)))
series_last by (t ∷ u ∷ ts) last =
    ap (λ l. render t ++ (codes ", " ++ l)) (series_last by (u ∷ ts) last)
    ∙ sym (append_assoc (render t) (codes ", ") (flat_map listed (u ∷ ts) ++ (by ++ (codes " " ++ render last))))
    ∙ sym (append_assoc (listed t) (flat_map listed (u ∷ ts)) (by ++ (codes " " ++ render last)))

map_last : {A B : Type 0} (f : A → B) (xs : List A) (x : A) → map f (xs ++ (x ∷ [])) ≡ map f xs ++ (f x ∷ [])
map_last f [] x = refl
map_last f (y ∷ ys) x = ap (λ l. f y ∷ l) (map_last f ys x)

-- what was written of all items but the last, and then the last one
pub series_ends : {A : Type 0} (by out old : List ℕ) (f : A → Tree) (items others : List A) (last : A) (i : ℕ) → length others ≤ i
    → out ++ flat_map listed (map f (drop i others)) ≡ old ++ flat_map listed (map f others) → items ≡ others ++ (last ∷ [])
    → out ++ (by ++ (codes " " ++ render (f last))) ≡ old ++ series by (map f items)
series_ends by out old f items others last i past held split =
    let tail = by ++ (codes " " ++ render (f last)) in
    ap (λ l. l ++ tail)
    (sym (append-nil out) ∙ ap (λ l. out ++ flat_map listed (map f l)) (sym (drop_all i others past)) ∙ held)
    ∙ append_assoc old (flat_map listed (map f others)) tail
    ∙ ap (λ l. old ++ l) (sym (ap (series by) (ap (map f) split ∙ map_last f others last) ∙ series_last by (map f others) (f last)))
