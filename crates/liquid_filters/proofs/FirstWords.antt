-- The words of a string that is cut to a number of words.
use Rattle.std.proofs.Common.{
  ◌≡◌,
  ℕ,
  ℤ,
  pos,
  negsuc,
  zero,
  suc,
  ◌<◌,
  ◌≤◌,
  Bool,
  true,
  false,
  ◌&&◌,
  ◌||◌,
  ltb,
  List,
  [],
  ◌∷◌,
  ◌++◌,
  length,
  map,
  take,
  refl,
  sym,
  ap,
  subst,
  ⊎_elim,
  inl,
  inr,
  ◌∙◌,
  append_assoc,
  append-nil,
  arith,
}
use Rattle.std.specs.Prelude.{codes, max}
use Rattle.std.specs.Char.{encode_utf8, is_whitespace}
use Rattle.std.specs.List.{All, filter, join_by, onto_first, slice_split, flat_map, take-map}
use Rattle.std.specs.Str.{chars, encode_utf8_all, IsUtf8, NonePass}
use Rattle.std.proofs.Math.Utf8.{scalar, scalars}
use Rattle.std.proofs.lemmas.Bool.{and_parts, cases_Bool, cases_eq, cond-true, cond-false}
use Rattle.std.proofs.lemmas.Bool.Decides.{nat_tests}
use Rattle.std.proofs.lemmas.List.{nil_from_length, take_all}
use Rattle.std.proofs.lemmas.List.Elements.{All-nil, All-cons}
use Rattle.std.proofs.lemmas.List.Splits.{slice_split-cons_no, slice_split-cons_yes}
use Rattle.std.proofs.lemmas.Str.{chars-encodes, chars-nil, scalars-chars, IsUtf8-append, IsUtf8-nil}
use Rattle.liquid_strings.specs.meaning.Truncation.{goes_on, truncated_at}
use Rattle.liquid_strings.specs.meaning.Split.{words}
use Rattle.liquid_strings.proofs.WordLemmas.{is_one_word, space_parts_words}
use Rattle.liquid_filters.specs.laws.string.Words.{FirstWordsAreKept}

-- characters without whitespace
abbrev IsPart : List ℕ → Type 0
IsPart cs = NonePass is_whitespace cs × (scalars cs ≡ true)

-- each of these is such a part, and maybe not empty
abbrev AreParts : List (List ℕ) → Type 0
AreParts [] = Unit {0}
AreParts (p ∷ ps) = IsPart p × AreParts ps

abbrev AreWords : List (List ℕ) → Type 0
AreWords [] = Unit {0}
AreWords (p ∷ ps) = ((0 < length p) × IsPart p) × AreWords ps

abbrev bytes_of : List (List ℕ) → List (List ℕ)
bytes_of ps = map encode_utf8_all ps

both_true : (a b : Bool) → a ≡ true → b ≡ true → (a && b) ≡ true
both_true a b h g = ap (λ x. x && b) h ∙ g

onto_parts : (c : ℕ) (ps : List (List ℕ)) → is_whitespace c ≡ false → scalar c ≡ true → AreParts ps → AreParts (onto_first c ps)
onto_parts c [] part code parts = (((part, tt), both_true (scalar c) true code refl), tt)
onto_parts c (p ∷ ps) part code parts =
    (((part, parts.0.0), both_true (scalar c) (scalars p) code parts.0.1), parts.1)

split_parts : (cs : List ℕ) → scalars cs ≡ true → AreParts (slice_split is_whitespace cs)
split_parts [] all = ((tt, refl), tt)
split_parts (c ∷ cs) all =
    let both = and_parts (scalar c) (scalars cs) all in
    elim (cases_Bool (is_whitespace c)) [
      | inl white ↦ subst AreParts (sym (slice_split-cons_yes is_whitespace c cs white)) ((tt, refl), split_parts cs both.1)
      | inr part ↦
          subst AreParts (sym (slice_split-cons_no is_whitespace c cs part))
          (onto_parts c (slice_split is_whitespace cs) part both.0 (split_parts cs both.1))
    ]

filter_words : (ps : List (List ℕ)) → AreParts ps → AreWords (filter (λ part. ltb 0 (length part)) ps)
filter_words [] parts = tt
filter_words (p ∷ ps) parts = elim (cases_Bool (ltb 0 (length p))) [
  | inl some ↦
      let more : 0 < length p = grind (arith, nat_tests) in
      subst AreWords (sym (cond-true _ _ _ some)) ((more, parts.0), filter_words ps parts.1)
  | inr empty ↦ subst AreWords (sym (cond-false _ _ _ empty)) (filter_words ps parts.1)
]

take_words : (n : ℕ) (ps : List (List ℕ)) → AreWords ps → AreWords (take n ps)
take_words zero ps all = tt
take_words (suc n) [] all = tt
take_words (suc n) (p ∷ ps) all = (all.0, take_words n ps all.1)

all_in : (cs : List ℕ) → NonePass is_whitespace cs → All (λ c. is_whitespace c ≡ false) cs
all_in [] pass = All-nil (λ c. is_whitespace c ≡ false)
all_in (c ∷ cs) pass = All-cons (λ c. is_whitespace c ≡ false) c cs pass.0 (all_in cs pass.1)

part_utf8 : (p : List ℕ) → scalars p ≡ true → IsUtf8 (encode_utf8_all p)
part_utf8 p s = (p, (s, refl))

some_bytes : (p : List ℕ) → 0 < length p → scalars p ≡ true → 0 < length (encode_utf8_all p)
some_bytes p more s = ⊎_elim
    (λ none.
    let empty : chars (encode_utf8_all p) ≡ [] = ap chars (nil_from_length (encode_utf8_all p) none) ∙ chars-nil in
    absurd (omega (arith, ap length (sym (chars-encodes p s) ∙ empty))))
    (λ some. omega arith)
    (cases_eq (length (encode_utf8_all p)) 0)

one_part : (p : List ℕ) → 0 < length p → IsPart p → words (encode_utf8_all p) ≡ encode_utf8_all p ∷ []
one_part p more part =
    is_one_word (encode_utf8_all p) (part_utf8 p part.1) (some_bytes p more part.1)
    (subst (λ cs. All (λ c. is_whitespace c ≡ false) cs) (sym (chars-encodes p part.1)) (all_in p part.0))

abbrev spaced : List (List ℕ) → List ℕ
spaced ps = join_by (λ word. word) (codes " ") (bytes_of ps)

no_words : words [] ≡ []
no_words = ap (λ cs. map encode_utf8_all (filter (λ part. ltb 0 (length part)) (slice_split is_whitespace cs))) chars-nil

-- words with a space between them are the words of that text
spaced_words : (ps : List (List ℕ)) → AreWords ps → IsUtf8 (spaced ps) × (words (spaced ps) ≡ bytes_of ps)
unfolding encode_utf8
spaced_words [] all = (IsUtf8-nil, no_words)
spaced_words (p ∷ []) all = (
  subst IsUtf8 (sym (append-nil (encode_utf8_all p))) (part_utf8 p all.0.1.1),
  ap words (append-nil (encode_utf8_all p)) ∙ one_part p all.0.0 all.0.1,
)
spaced_words (p ∷ q ∷ rs) all =
    let rest = spaced_words (q ∷ rs) all.1 in
    let front = part_utf8 p all.0.1.1 in
    let whole : spaced (p ∷ q ∷ rs) ≡ encode_utf8_all p ++ (encode_utf8 32 ++ spaced (q ∷ rs)) =
    ap (λ l. encode_utf8_all p ++ l) (append_assoc (codes " ") (encode_utf8_all q) (flat_map (λ w. codes " " ++ w) (bytes_of rs))) in (
      subst IsUtf8 (sym whole)
          (IsUtf8-append (encode_utf8_all p) (encode_utf8 32 ++ spaced (q ∷ rs)) front
          (IsUtf8-append (encode_utf8 32) (spaced (q ∷ rs)) (32 ∷ [], (refl, refl)) rest.0)),
      ap words whole
          ∙ space_parts_words (encode_utf8_all p) (spaced (q ∷ rs)) 32 front rest.0 refl
          ∙ ap (λ l. l ++ words (spaced (q ∷ rs))) (one_part p all.0.0 all.0.1)
          ∙ ap (λ l. encode_utf8_all p ∷ l) rest.1,
    )

at_most : (n k : ℕ) (b : Bool) → (ltb n k || b) ≡ false → k ≤ n
at_most n k b h = grind (arith, nat_tests)

cut_words : (n : ℕ) (text : List ℕ) → IsUtf8 text → words (truncated_at n [] text) ≡ take n (words text)
cut_words n text u =
    let ps = filter (λ part. ltb 0 (length part)) (slice_split is_whitespace (chars text)) in
    let all = take_words n ps (filter_words (slice_split is_whitespace (chars text)) (split_parts (chars text) (scalars-chars text u))) in
    elim (cases_Bool (goes_on n text)) [
      | inl more ↦
          ap words (cond-true _ _ _ more)
          ∙ ap words (append-nil (join_by (λ word. word) (codes " ") (take n (words text))))
          ∙ ap (λ ws. words (join_by (λ word. word) (codes " ") ws)) (take-map encode_utf8_all n ps)
          ∙ (spaced_words (take n ps) all).1
          ∙ sym (take-map encode_utf8_all n ps)
      | inr whole ↦ ap words (cond-false _ _ _ whole) ∙ sym (take_all n (words text) (at_most n (length (words text)) _ whole))
    ]

pub first_words : (count : ℤ) (text : List ℕ) → IsUtf8 text → FirstWordsAreKept count text
first_words (pos n) text u = cut_words (max n 1) text u
first_words (negsuc n) text u = cut_words 1 text u
