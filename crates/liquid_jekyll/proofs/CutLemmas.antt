-- Where an authority ends, and paths that don't begin at the root.
use Rattle.std.proofs.Common.{◌≡◌, ℕ, ◌<◌, ◌≤◌, false, nat_eq, List, [], ◌∷◌, length, map, get_or, arith, refl, sym, ◌∙◌, subst, ⊎_elim}
use Rattle.std.specs.Prelude.{codes}
use Rattle.std.specs.List.{join_by, prefix_len}
use Rattle.std.specs.Str.{IsCharBoundary}
use Rattle.std.proofs.lemmas.Bool.{cases_lt}
use Rattle.std.proofs.lemmas.Bool.Decides.{nat_tests}
use Rattle.std.proofs.lemmas.List.Sums.{prefix_len_stops}
use Rattle.std.proofs.lemmas.Str.{IsCharBoundary-before_ascii, IsCharBoundary-end}
use Rattle.liquid_strings.proofs.PieceLemmas.{join_by_view}
use Rattle.liquid_jekyll.specs.meaning.url.Parting.{is_inside}
use Rattle.liquid_jekyll.specs.meaning.url.Path.{path_of}

slash_is_ascii : (b : ℕ) → is_inside b ≡ false → b < 128
slash_is_ascii b is = grind (arith, nat_tests)

pub before_slash : (text : List ℕ) → prefix_len is_inside text ≤ length text → IsCharBoundary text (prefix_len is_inside text)
before_slash text within = ⊎_elim
    (λ inside.
    IsCharBoundary-before_ascii text (prefix_len is_inside text) inside
    (slash_is_ascii (get_or text (prefix_len is_inside text) 0) (prefix_len_stops is_inside text 0 inside)))
    (λ past.
    let end : length text ≡ prefix_len is_inside text = omega arith in
    subst (λ i. IsCharBoundary text i) end (IsCharBoundary-end text))
    (cases_lt (prefix_len is_inside text) (length text))

-- a path that doesn't begin at the root
path_of_full : (s : List ℕ) (ss : List (List ℕ)) → nat_eq (length s) 0 ≡ false → path_of (s ∷ ss)
    ≡ join_by (λ t. t) (codes "/") (s ∷ ss)
path_of_full [] ss full = absurd (cc)
path_of_full (b ∷ bs) ss full = refl

pub joined : {A : Type 0} (text : A → List ℕ) (xs : List A) (first : A) → 1 ≤ length xs → first ≡ get_or xs 0 first
    → nat_eq (length (text first)) 0 ≡ false → join_by text (codes "/") xs ≡ path_of (map text xs)
joined text [] first some is full = absurd (omega arith)
joined text (x ∷ xs) first some is full =
    let begins : nat_eq (length (text x)) 0 ≡ false = rw is at full in
    join_by_view text (codes "/") (x ∷ xs) ∙ sym (path_of_full (text x) (map text xs) begins)
