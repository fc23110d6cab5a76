-- Words and pieces of a string, one by one.
use Rattle.std.proofs.Common.{
  ◌≡◌,
  ◌≢◌,
  ℕ,
  ◌+◌,
  ◌<◌,
  Bool,
  true,
  false,
  not,
  ◌&&◌,
  cond,
  List,
  [],
  ◌∷◌,
  ◌++◌,
  map,
  length,
  take,
  refl,
  sym,
  ap,
  subst,
  ◌∙◌,
  append_assoc,
  append-nil,
  arith,
  get_or,
  eqb,
  ltb,
  ⊎_elim,
  length-append,
}
use Rattle.std.proofs.lemmas.Bool.Decides.{nat_tests}
use Rattle.std.proofs.lemmas.Bool.{cases_Bool, cond-true, cond-false, cases_eq, ne_eqb, lt-ltb}
use Rattle.std.proofs.lemmas.List.{map-append, nil_from_length, take_more}
use Rattle.std.specs.List.{take-map}
use Rattle.std.proofs.lemmas.List.Elements.{All-nil, All-cons, filter-append}
use Rattle.std.proofs.lemmas.List.Splits.{length-slice_split, slice_split_at, slice_split_none, slice_split-cons_no, slice_split-cons_yes}
use Rattle.std.proofs.lemmas.Str.{
  chars_from_encodes,
  chars_past_char,
  chars-append,
  encodes-append,
  encodes-chars,
  chars-nil,
  IsUtf8-append,
  IsUtf8-encode,
}
use Rattle.std.specs.Char.{encode_utf8, is_whitespace, is_not_whitespace, IsScalar}
use Rattle.std.specs.List.{All, filter, onto_first, slice_split}
use Rattle.std.specs.Str.{chars, encode_utf8_all, IsUtf8, NonePass, NoCharPasses, EmptyOrStartsWithPassing}
use Rattle.liquid_strings.specs.laws.Words.{IsOneWord, SpacePartsWords}
use Rattle.liquid_strings.specs.meaning.Split.{words, without_empty_end}
use Rattle.liquid_strings.proofs.PlaceLemmas.{after_text}

abbrev is_word : List ℕ → Bool
is_word part = ltb 0 (length part)

-- the words of characters
abbrev words_of : List ℕ → List (List ℕ)
words_of cs = filter is_word (slice_split is_whitespace cs)

white : (c : ℕ) → is_not_whitespace c ≡ false → is_whitespace c ≡ true
white c e = by (is_whitespace c) e
  where
    by : (b : Bool) → not b ≡ false → b ≡ true
    by true _ = refl
    by false e = sym e

words_after_white : (c : ℕ) (cs : List ℕ) → is_whitespace c ≡ true → words_of (c ∷ cs) ≡ words_of cs
words_after_white c cs e = ap (filter is_word) (slice_split-cons_yes is_whitespace c cs e)

-- whitespace before words, and alone
words_after_gap : (gap cs : List ℕ) → NonePass is_not_whitespace gap → words_of (gap ++ cs) ≡ words_of cs
words_after_gap [] cs none = refl
words_after_gap (g ∷ gap) cs none = words_after_white g (gap ++ cs) (white g none.0) ∙ words_after_gap gap cs none.1

none_in_all : (cs : List ℕ) → NonePass is_whitespace cs → All (λ c. is_whitespace c ≡ false) cs
none_in_all [] none = All-nil (λ c. is_whitespace c ≡ false)
none_in_all (c ∷ cs) none = All-cons (λ c. is_whitespace c ≡ false) c cs none.0 (none_in_all cs none.1)

-- a word before whitespace, and at the end
kept : (w : List ℕ) (ws : List (List ℕ)) → 0 < length w → filter is_word (w ∷ ws) ≡ w ∷ filter is_word ws
kept w ws more = cond-true _ _ _ (lt-ltb 0 (length w) more)

word_before_white : (w : List ℕ) (c : ℕ) (cs : List ℕ) → 0 < length w → NonePass is_whitespace w → is_whitespace c ≡ true
    → words_of (w ++ c ∷ cs) ≡ w ∷ words_of (c ∷ cs)
word_before_white w c cs more none e =
    ap (filter is_word) (slice_split_at is_whitespace w c cs (none_in_all w none) e)
    ∙ kept w (slice_split is_whitespace cs) more
    ∙ ap (λ ws. w ∷ ws) (sym (words_after_white c cs e))

word_at_end : (w : List ℕ) → 0 < length w → NonePass is_whitespace w → words_of w ≡ w ∷ []
word_at_end w more none = ap (filter is_word) (slice_split_none is_whitespace w (none_in_all w none)) ∙ kept w [] more

-- characters of bytes that are there
some_characters : (cs bs : List ℕ) → encode_utf8_all cs ≡ bs → 0 < length bs → 0 < length cs
some_characters [] bs e more = absurd (omega (arith, ap length e))
some_characters (c ∷ cs) bs e more = omega arith

pub words_of_white : (bs : List ℕ) → IsUtf8 bs → NoCharPasses is_not_whitespace bs → words bs ≡ []
words_of_white bs u none =
    ap (map encode_utf8_all) (ap words_of (sym (chars_from_encodes none.0 bs u none.1)) ∙ ap words_of (sym (append-nil none.0))
    ∙ words_after_gap none.0 [] none.2)

-- what a call of `next` says about a word
pub words_step : (bs w rest : List ℕ) → IsUtf8 bs
    → (gap : List ℕ) × (bs ≡ gap ++ (w ++ rest)) × (0 < length w) × NoCharPasses is_not_whitespace gap × NoCharPasses is_whitespace w
    × ((more : List ℕ) × EmptyOrStartsWithPassing is_whitespace rest more)
    → IsUtf8 rest × (words bs ≡ w ∷ words rest)
words_step bs w rest u item =
    let gs = item.3.0 in
    let ws = item.4.0 in
    let parts : encode_utf8_all (gs ++ ws) ++ rest ≡ bs =
    ap (λ l. l ++ rest) (encodes-append gs ws) ∙ append_assoc (encode_utf8_all gs) (encode_utf8_all ws) rest
    ∙ ap (λ g. g ++ (encode_utf8_all ws ++ rest)) item.3.1 ∙ ap (λ v. item.0 ++ (v ++ rest)) item.4.1 ∙ sym item.1 in
    let after : IsUtf8 rest = after_text (gs ++ ws) rest (subst IsUtf8 (sym parts) u) in
    let spelled : encode_utf8_all ((gs ++ ws) ++ chars rest) ≡ bs =
    encodes-append (gs ++ ws) (chars rest) ∙ ap (λ l. encode_utf8_all (gs ++ ws) ++ l) (encodes-chars rest after) ∙ parts in
    let whole : chars bs ≡ gs ++ (ws ++ chars rest) = sym (chars_from_encodes _ bs u spelled) ∙ append_assoc gs ws (chars rest) in
    let more : 0 < length ws = some_characters ws w item.4.1 item.2 in
    let first : words_of (ws ++ chars rest) ≡ ws ∷ words_of (chars rest) = ⊎_elim
    (λ none.
    let nothing : chars rest ≡ [] = ap chars (nil_from_length rest none) ∙ chars-nil in
    rw nothing (ap words_of (append-nil ws) ∙ word_at_end ws more item.4.2))
    (λ some.
    let next = item.5.1 (omega arith) in
    let then : chars rest ≡ next.0 ∷ chars item.5.0 = chars_past_char rest item.5.0 next.0 after next.2 in
    rw then (word_before_white ws next.0 (chars item.5.0) more item.4.2 next.1))
    (cases_eq (length rest) 0) in (
      after,
      ap (λ cs. map encode_utf8_all (words_of cs)) whole
          ∙ ap (map encode_utf8_all) (words_after_gap gs (ws ++ chars rest) item.3.2 ∙ first)
          ∙ ap (λ v. v ∷ words rest) item.4.1,
    )

-- pieces with one more at the end
pub end_empty : (ps : List (List ℕ)) (p : List ℕ) → length p ≡ 0 → without_empty_end (ps ++ p ∷ []) ≡ without_empty_end ps
end_empty [] p e = ap (λ n. cond (eqb n 0 && true) [] (p ∷ [])) e
end_empty (q ∷ ps) p e = ap (λ rest. cond (eqb (length q) 0 && eqb (length rest) 0) [] (q ∷ rest)) (end_empty ps p e)

pub end_kept : (ps : List (List ℕ)) (p : List ℕ) → 0 < length p → without_empty_end (ps ++ p ∷ []) ≡ ps ++ p ∷ []
end_kept [] p more = ap (λ b. cond (b && true) [] (p ∷ [])) (ne_eqb (length p) 0 (omega arith))
end_kept (q ∷ ps) p more =
    let rest : without_empty_end (ps ++ p ∷ []) ≡ ps ++ p ∷ [] = end_kept ps p more in
    let longer : length (without_empty_end (ps ++ p ∷ [])) ≢ 0 = λ none. omega (arith, ap length rest ∙ length-append ps (p ∷ [])) in
    cond-false _ _ _ (ap (λ b. eqb (length q) 0 && b) (ne_eqb _ 0 longer) ∙ and_false (eqb (length q) 0)) ∙ ap (λ l. q ∷ l) rest
  where
    and_false : (b : Bool) → (b && false) ≡ false
    and_false true = refl
    and_false false = refl

module _ {X : Type 0} (f : X → List ℕ) (xs : List X) (at kept : ℕ) (d : X) (within : at < length xs) where
  one_more : take (at + 1) (map f xs) ≡ take at (map f xs) ++ f (get_or xs at d) ∷ []
  one_more =
      take-map f (at + 1) xs ∙ ap (map f) (take_more xs at d within) ∙ map-append f (take at xs) (get_or xs at d ∷ [])
      ∙ ap (λ l. l ++ f (get_or xs at d) ∷ []) (sym (take-map f at xs))

  -- the pieces up to a place, with one more that is empty, and with one more that is not
  pub still_kept : length (f (get_or xs at d)) ≡ 0 → take kept (map f xs) ≡ without_empty_end (take at (map f xs))
      → take kept (map f xs) ≡ without_empty_end (take (at + 1) (map f xs))
  still_kept none held = held ∙ sym (ap without_empty_end one_more ∙ end_empty (take at (map f xs)) _ none)

  pub all_kept : length (f (get_or xs at d)) ≢ 0 → take (at + 1) (map f xs) ≡ without_empty_end (take (at + 1) (map f xs))
  all_kept some = one_more ∙ sym (ap without_empty_end one_more ∙ end_kept (take at (map f xs)) _ (omega arith))

-- parts of a list and those after an element that parts them
onto : {X : Type 0} (x : X) (l m : List (List X)) → 0 < length l → onto_first x (l ++ m) ≡ onto_first x l ++ m
onto x [] m more = absurd (omega arith)
onto x (part ∷ l) m more = refl

split_append : {X : Type 0} (p : X → Bool) (xs : List X) (y : X) (ys : List X) → p y ≡ true
    → slice_split p (xs ++ y ∷ ys) ≡ slice_split p xs ++ slice_split p ys
split_append p [] y ys e = slice_split-cons_yes p y ys e
split_append p (x ∷ xs) y ys e = ⊎_elim
    (λ yes.
    slice_split-cons_yes p x (xs ++ y ∷ ys) yes ∙ ap (λ l. [] ∷ l) (split_append p xs y ys e)
    ∙ ap (λ l. l ++ slice_split p ys) (sym (slice_split-cons_yes p x xs yes)))
    (λ no.
    slice_split-cons_no p x (xs ++ y ∷ ys) no ∙ ap (onto_first x) (split_append p xs y ys e)
    ∙ onto x (slice_split p xs) (slice_split p ys) (omega (arith, length-slice_split p xs))
    ∙ ap (λ l. l ++ slice_split p ys) (sym (slice_split-cons_no p x xs no)))
    (cases_Bool (p x))

space_is_scalar : (c : ℕ) → is_whitespace c ≡ true → IsScalar c
space_is_scalar c e = grind (arith, nat_tests)

pub space_parts_words : (front back : List ℕ) (c : ℕ) → IsUtf8 front → IsUtf8 back → SpacePartsWords front c back
space_parts_words front back c u v e =
    let s = space_is_scalar c e in
    let spelled : IsUtf8 (encode_utf8 c ++ back) = IsUtf8-append (encode_utf8 c) back (IsUtf8-encode c s) v in
    let whole : chars (front ++ (encode_utf8 c ++ back)) ≡ chars front ++ c ∷ chars back =
    chars-append front (encode_utf8 c ++ back) u
    ∙ ap (λ l. chars front ++ l) (chars_past_char (encode_utf8 c ++ back) back c spelled refl) in
    ap (λ cs. map encode_utf8_all (words_of cs)) whole
    ∙ ap (λ l. map encode_utf8_all (filter is_word l)) (split_append is_whitespace (chars front) c (chars back) e)
    ∙ ap (map encode_utf8_all) (filter-append is_word (slice_split is_whitespace (chars front)) (slice_split is_whitespace (chars back)))
    ∙ map-append encode_utf8_all (words_of (chars front)) (words_of (chars back))

pub is_one_word : (text : List ℕ) → IsUtf8 text → IsOneWord text
is_one_word text u more all =
    let some : 0 < length (chars text) = some_characters (chars text) text (encodes-chars text u) more in
    ap (map encode_utf8_all)
    (ap (filter is_word) (slice_split_none is_whitespace (chars text) all) ∙ kept (chars text) [] some)
    ∙ ap (λ l. l ∷ []) (encodes-chars text u)
