-- The first name of an index page in a string.
use Rattle.std.proofs.Common.{
  ◌≡◌,
  ℕ,
  ◌+◌,
  ◌<◌,
  ◌≤◌,
  Bool,
  true,
  false,
  List,
  [],
  ◌∷◌,
  ◌++◌,
  ◌&&◌,
  ◌⊎◌,
  inl,
  inr,
  ⊎_elim,
  Some,
  None,
  cond,
  length,
  take,
  drop,
  get_or,
  refl,
  sym,
  ap,
  ◌∙◌,
  append_assoc,
  arith,
  subst,
}
use Rattle.std.specs.Prelude.{codes, nat_eq}
use Rattle.std.specs.Char.{encode_utf8}
use Rattle.std.specs.List.{starts_with}
use Rattle.std.specs.Option.{option_map_or}
use Rattle.std.specs.Str.{IsCharBoundary, IsUtf8}
use Rattle.std.proofs.lemmas.List.{drop-drop, drop_more, length-drop, take_more}
use Rattle.memchr.specs.Find.{OccursAt}
use Rattle.liquid_strings.proofs.PlaceLemmas.{cut_after, cut_before}
use Rattle.liquid_strings.proofs.TagLemmas.{opens_at}
use Rattle.liquid_jekyll.specs.meaning.text.Index.{ends_line, index_length, index_stripped}

-- a string by its first byte
step_none : (b : ℕ) (rest : List ℕ) → index_length (b ∷ rest) ≡ None → index_stripped (b ∷ rest) ≡ b ∷ index_stripped rest
step_none b rest none = ap (λ o. option_map_or (λ n. 47 ∷ drop n (b ∷ rest)) o (b ∷ index_stripped rest)) none

step_some : (b : ℕ) (rest : List ℕ) (n : ℕ) → index_length (b ∷ rest) ≡ Some n → index_stripped (b ∷ rest) ≡ 47 ∷ drop n (b ∷ rest)
step_some b rest n some = ap (λ o. option_map_or (λ m. 47 ∷ drop m (b ∷ rest)) o (b ∷ index_stripped rest)) some

name_cases : (a b c d : Bool) (n : ℕ) → cond (a && b) (Some 11) (cond (c && d) (Some 10) None) ≡ Some n
    → ((a ≡ true) × (n ≡ 11)) ⊎ ((c ≡ true) × (n ≡ 10))
name_cases true true c d n h = inl (refl, cc)
name_cases true false true true n h = inr (refl, cc)
name_cases true false true false n h = absurd cc
name_cases true false false d n h = absurd cc
name_cases false b true true n h = inr (refl, cc)
name_cases false b true false n h = absurd cc
name_cases false b false d n h = absurd cc

-- the name that ends after that many bytes
pub index_name : (bs : List ℕ) (n : ℕ) → index_length bs ≡ Some n
    → ((starts_with nat_eq bs (codes "/index.html") ≡ true) × (n ≡ 11)) ⊎ ((starts_with nat_eq bs (codes "/index.htm") ≡ true) × (n ≡ 10))
index_name bs n h =
    name_cases (starts_with nat_eq bs (codes "/index.html")) (ends_line (drop 11 bs)) (starts_with nat_eq bs (codes "/index.htm"))
    (ends_line (drop 10 bs)) n h

module _ (bs : List ℕ) (at : ℕ) (within : at < length bs) (held : index_stripped bs ≡ take at bs ++ index_stripped (drop at bs)) where
  pub passes_on : index_length (drop at bs) ≡ None → index_stripped bs ≡ take (at + 1) bs ++ index_stripped (drop (at + 1) bs)
  passes_on none =
      let b = get_or bs at 0 in
      let rest = drop (at + 1) bs in
      let split = drop_more bs at 0 within in
      held
      ∙ ap (λ l. take at bs ++ index_stripped l) split
      ∙ ap (λ l. take at bs ++ l) (step_none b rest (ap index_length (sym split) ∙ none))
      ∙ sym (append_assoc (take at bs) (b ∷ []) (index_stripped rest))
      ∙ ap (λ l. l ++ index_stripped rest) (sym (take_more bs at 0 within))

  pub replaces : (n : ℕ) → index_length (drop at bs) ≡ Some n → index_stripped bs ≡ take at bs ++ (47 ∷ drop (at + n) bs)
  replaces n some =
      let b = get_or bs at 0 in
      let rest = drop (at + 1) bs in
      let split = drop_more bs at 0 within in
      held
      ∙ ap (λ l. take at bs ++ index_stripped l) split
      ∙ ap (λ l. take at bs ++ l) (step_some b rest n (ap index_length (sym split) ∙ some))
      ∙ ap (λ l. take at bs ++ (47 ∷ drop n l)) (sym split)
      ∙ ap (λ l. take at bs ++ (47 ∷ l)) (drop-drop n at bs)

module _ (bs : List ℕ) (u : IsUtf8 bs) (at n : ℕ) (within : at + n ≤ length bs) where
  cuts : (name : List ℕ) → IsUtf8 name → 0 < length name → n ≡ length name → starts_with nat_eq (drop at bs) name ≡ true
      → IsCharBoundary bs at × IsCharBoundary bs (at + n)
  cuts name v more same begins =
      let occurs : OccursAt bs name at = opens_at bs name name at (omega arith) (omega (arith, length-drop at bs)) begins in
      let cut = cut_before bs name u v at more occurs in
      (cut, subst (λ m. IsCharBoundary bs (at + m)) (sym same) (cut_after bs name u v at cut occurs))

  pub cuts_name : index_length (drop at bs) ≡ Some n → IsCharBoundary bs at × IsCharBoundary bs (at + n)
  unfolding encode_utf8
  cuts_name some = ⊎_elim
      (λ html. cuts (codes "/index.html") (codes "/index.html", (refl, refl)) (omega arith) html.1 html.0)
      (λ htm. cuts (codes "/index.htm") (codes "/index.htm", (refl, refl)) (omega arith) htm.1 htm.0)
      (index_name (drop at bs) n some)
