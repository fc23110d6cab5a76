-- A string that is written for a URL is read back.
use Rattle.std.proofs.Common.{
  ◌≡◌,
  ◌≢◌,
  ℕ,
  zero,
  suc,
  ◌+◌,
  ◌-◌,
  ◌<◌,
  ◌≤◌,
  Bool,
  true,
  false,
  cond,
  ◌&&◌,
  ◌||◌,
  not,
  ⊎_elim,
  subst,
  List,
  [],
  ◌∷◌,
  ◌++◌,
  length,
  map,
  take,
  drop,
  get_or,
  refl,
  sym,
  ap,
  ◌∙◌,
  arith,
  eqb,
  nat_le,
  append_assoc,
  append-nil,
  Some,
  length-drop,
}
use Rattle.std.specs.Prelude.{slice_range}
use Rattle.std.specs.Str.{IsUtf8}
use Rattle.std.proofs.lemmas.Bool.{agree_below, agree_below_at, cases_lt, eqb-true}
use Rattle.std.proofs.lemmas.List.Elements.{All-head, All-tail}
use Rattle.std.proofs.lemmas.Str.{is_utf8-from_IsUtf8}
use Rattle.percent_encoding.specs.AsciiSet.{contains, should_percent_encode}
use Rattle.percent_encoding.specs.Percent.{encode_byte, percent_encode, percent_encode_byte}
use Rattle.percent_encoding.proofs.AsciiSetLemmas.{escaped_from_inside}
use Rattle.percent_encoding.proofs.PercentLemmas.{All-percent_encode, All-percent_encode_byte, IsByte, IsEscapeByte, round_trip}
use Rattle.liquid_strings.specs.declared.url.TheConstants.{ESCAPED}
use Rattle.liquid_strings.specs.meaning.Url.{stays_in_url, url_byte, url_decoded, url_encoded}
use Rattle.std.specs.List.{All, flat_map, join_by}
use Rattle.std.proofs.lemmas.Bool.Decides.{nat_tests}
use Rattle.std.proofs.lemmas.List.Folds.{drop_split}
use Rattle.std.proofs.lemmas.List.{get_or-drop, map-append}
use Rattle.std.proofs.Math.Seq.{drop-cons, drop-length, take-suc}
use Rattle.memchr.specs.Find.{matches_from, occurs_at}
use Rattle.liquid_strings.specs.meaning.Pieces.{pieces_between}
use Rattle.liquid_strings.specs.meaning.Replace.{replaced}

-- one byte in place of another
abbrev pub swap : ℕ → ℕ → ℕ → ℕ
swap c d x = cond (eqb x c) d x

and_true : (b : Bool) → (b && true) ≡ b
and_true true = refl
and_true false = refl

pub occurs_one : (c : ℕ) (text : List ℕ) (i : ℕ) → i < length text → occurs_at text (c ∷ []) i ≡ eqb (get_or text i 0) c
occurs_one c text i h =
    let fits : nat_le (i + 1) (length text) ≡ true = grind (arith, nat_tests) in
    rw (fits, drop-cons text i 0 h) (and_true (eqb (get_or text i 0) c))

-- what follows a piece
after_piece : (sep text : List ℕ) (len at : ℕ) (places : List ℕ) → flat_map (λ piece. sep ++ piece)
    (pieces_between len text at places) ≡ sep ++ join_by (λ piece. piece) sep (pieces_between len text at places)
after_piece sep text len at [] = append_assoc sep (drop at text) []
after_piece sep text len at (p ∷ places) = append_assoc sep (slice_range text at p) _

-- one more byte of a piece
slice_more : (text : List ℕ) (from i : ℕ) → from ≤ i → i < length text → slice_range text from (i + 1) ≡ slice_range text from i
    ++ (get_or text i 0 ∷ [])
slice_more text from i h small =
    let count : i + 1 - from ≡ suc (i - from) = omega arith in
    let place : from + (i - from) ≡ i = omega arith in
    let within : i - from < length (drop from text) = omega (arith, length-drop from text) in
    ap (λ k. take k (drop from text)) count ∙ take-suc (drop from text) (i - from) 0 within
    ∙ ap (λ x. slice_range text from i ++ (x ∷ [])) (get_or-drop from text (i - from) 0 ∙ ap (λ k. get_or text k 0) place)

-- the byte at a place, swapped, and those after it
swap_at : (c d : ℕ) (text : List ℕ) (i : ℕ) → i < length text → swap c d (get_or text i 0)
    ∷ map (swap c d) (drop (i + 1) text) ≡ map (swap c d) (drop i text)
swap_at c d text i small =
    let next : i + 1 ≡ suc i = omega arith in
    rw (next, drop-cons text i 0 small) refl

empty_slice : (text : List ℕ) (i : ℕ) (rest : List ℕ) → slice_range text i i ++ rest ≡ rest
empty_slice text i rest = let none : i - i ≡ 0 = omega arith in rw none refl

-- what is joined from a place on
abbrev Swapped : ℕ → ℕ → List ℕ → ℕ → ℕ → List ℕ → Type 0
Swapped c d text i from places = join_by (λ piece. piece) (d ∷ []) (pieces_between 1 text from places) ≡ slice_range text from i
    ++ map (swap c d) (drop i text)

one_more : (c d : ℕ) (text : List ℕ) (n i from : ℕ) → from ≤ i → i < length text
    → ((start : ℕ) → start ≤ i + 1 → Swapped c d text (i + 1) start (matches_from text (c ∷ []) 0 (i + 1) n)) → (b : Bool)
    → eqb (get_or text i 0) c ≡ b → Swapped c d text i from
    (cond b (i ∷ matches_from text (c ∷ []) 0 (i + 1) n) (matches_from text (c ∷ []) 0 (i + 1) n))
one_more c d text n i from h small again true t =
    let rest = again (i + 1) (omega arith) ∙ empty_slice text (i + 1) (map (swap c d) (drop (i + 1) text)) in
    let here : d ∷ map (swap c d) (drop (i + 1) text) ≡ map (swap c d) (drop i text) = rw t at (swap_at c d text i small) in
    ap (λ t. slice_range text from i ++ t) (after_piece (d ∷ []) text 1 (i + 1) (matches_from text (c ∷ []) 0 (i + 1) n)
    ∙ ap (λ t. d ∷ t) rest ∙ here)
one_more c d text n i from h small again false t =
    let here : get_or text i 0 ∷ map (swap c d) (drop (i + 1) text) ≡ map (swap c d) (drop i text) = rw t at (swap_at c d text i small) in
    again from (omega arith)
    ∙ ap (λ t. t ++ map (swap c d) (drop (i + 1) text)) (slice_more text from i h small)
    ∙ append_assoc (slice_range text from i) (get_or text i 0 ∷ []) (map (swap c d) (drop (i + 1) text))
    ∙ ap (λ t. slice_range text from i ++ t) here

swapped_from : (c d : ℕ) (text : List ℕ) (n i from : ℕ) → from ≤ i → i + n ≡ length text
    → join_by (λ piece. piece) (d ∷ []) (pieces_between 1 text from (matches_from text (c ∷ []) 0 i (suc n))) ≡ slice_range text from i
    ++ map (swap c d) (drop i text)
unfolding matches_from
swapped_from c d text zero i from h e =
    let fits : nat_le (i + 1) (length text) ≡ false = grind (arith, nat_tests) in
    let end : i ≡ length text = omega arith in
    let none : drop i text ≡ [] = ap (λ k. drop k text) end ∙ drop-length text in
    rw fits (append-nil (drop from text) ∙ drop_split text from i h ∙ ap (λ t. slice_range text from i ++ t) (rw none refl))
swapped_from c d text (suc n) i from h e =
    let small : i < length text = omega arith in
    rw (occurs_one c text i small)
    (one_more c d text (suc n) i from h small (λ start low. swapped_from c d text n (i + 1) start low (omega arith)) _ refl)

pub swapped : (c d : ℕ) (text : List ℕ) → replaced (c ∷ []) (d ∷ []) text ≡ map (swap c d) text
swapped c d text =
    let count : length text + 1 - 0 ≡ suc (length text) = omega arith in
    rw count (swapped_from c d text (length text) 0 0 (omega arith) (omega arith))

-- a space for a plus sign, and back
back_one : (x : ℕ) → x ≢ 43 → swap 43 32 (swap 32 43 x) ≡ x
back_one x other = by_test (eqb x 32) refl (eqb x 43) refl
  where
    by_test : (b : Bool) → eqb x 32 ≡ b → (e : Bool) → eqb x 43 ≡ e → swap 43 32 (swap 32 43 x) ≡ x
    by_test true t e u = rw t (sym (eqb-true x 32 t))
    by_test false t true u = absurd (other (eqb-true x 43 u))
    by_test false t false u = rw (t, u) refl

back : (xs : List ℕ) → All (λ x. x ≢ 43) xs → map (swap 43 32) (map (swap 32 43) xs) ≡ xs
back [] all = refl
back (x ∷ xs) all =
    rw (back_one x (All-head (λ x. x ≢ 43) x xs all), back xs (All-tail (λ x. x ≢ 43) x xs all)) refl

plus_is_escaped : contains ESCAPED 43 ≡ true
plus_is_escaped = refl

percent_is_escaped : contains ESCAPED 37 ≡ true
percent_is_escaped = refl

no_plus : (text : List ℕ) → All (λ b. b ≢ 43) (percent_encode ESCAPED text)
no_plus text = All-percent_encode (λ b. b ≢ 43) ESCAPED text kept (λ b escape same. grind (arith, escape))
  where
    kept : (b : ℕ) → should_percent_encode ESCAPED b ≡ false → b ≢ 43
    kept b e same = let yes = escaped_from_inside ESCAPED 43 plus_is_escaped in let no_escape : should_percent_encode ESCAPED 43 ≡ false =
        rw (← same) e in cc

-- a byte in a URL is its escape, with a plus sign in place of a space
escaped_in_table : agree_below (should_percent_encode ESCAPED) (λ b. not (stays_in_url b || eqb b 32)) 128 ≡ true
unfolding should_percent_encode
escaped_in_table = refl

escaped_outside : (b : ℕ) → 128 ≤ b → (should_percent_encode ESCAPED b ≡ true) × (stays_in_url b ≡ false) × (eqb b 32 ≡ false)
unfolding should_percent_encode
escaped_outside b high = (grind (arith, nat_tests), grind (arith, nat_tests), grind (arith, nat_tests))

no_space : (bs : List ℕ) → All IsEscapeByte bs → map (swap 32 43) bs ≡ bs
no_space [] all = refl
no_space (b ∷ bs) all =
    let is = All-head IsEscapeByte b bs all in
    let other : eqb b 32 ≡ false = grind (arith, nat_tests, is) in
    rw (other, no_space bs (All-tail IsEscapeByte b bs all)) refl

byte_in_url : (b : ℕ) (stays space escapes : Bool) → stays_in_url b ≡ stays → eqb b 32 ≡ space → should_percent_encode ESCAPED b ≡ escapes
    → escapes ≡ not (stays || space) → (stays ≡ true → space ≡ false) → map (swap 32 43) (encode_byte ESCAPED b) ≡ url_byte b
byte_in_url b true true escapes s t u e one = absurd (cc (one refl))
byte_in_url b true false true s t u e one = absurd (cc)
byte_in_url b true false false s t u e one = rw (s, u, t) refl
byte_in_url b false true true s t u e one = absurd (cc)
byte_in_url b false true false s t u e one = rw (s, u, t) refl
byte_in_url b false false true s t u e one = rw (s, t, u) (no_space (percent_encode_byte b) (All-percent_encode_byte b))
byte_in_url b false false false s t u e one = absurd (cc)

space_goes : (b : ℕ) → stays_in_url b ≡ true → eqb b 32 ≡ false
space_goes b stays = by_test (eqb b 32) refl
  where
    by_test : (t : Bool) → eqb b 32 ≡ t → eqb b 32 ≡ false
    by_test true t = let P : ℕ → Type 0 = λ x. stays_in_url x ≡ true in let goes : false ≡ true =
        subst P (eqb-true b 32 t) stays in absurd (cc)
    by_test false t = t

each_byte : (b : ℕ) → map (swap 32 43) (encode_byte ESCAPED b) ≡ url_byte b
each_byte b = ⊎_elim
    (λ low. byte_in_url b _ _ _ refl refl refl (agree_below_at (should_percent_encode ESCAPED)
    (λ b. not (stays_in_url b || eqb b 32)) 128 b escaped_in_table low) (space_goes b))
    (λ high.
    let outside = escaped_outside b high in
    byte_in_url b false false true outside.1 outside.2 outside.0 refl (λ t. absurd (cc)))
    (cases_lt b 128)

by_bytes : (text : List ℕ) → map (swap 32 43) (percent_encode ESCAPED text) ≡ url_encoded text
unfolding percent_encode
by_bytes [] = refl
by_bytes (b ∷ bs) =
    map-append (swap 32 43) (encode_byte ESCAPED b) (percent_encode ESCAPED bs)
    ∙ ap (λ t. t ++ map (swap 32 43) (percent_encode ESCAPED bs)) (each_byte b) ∙ ap (λ t. url_byte b ++ t) (by_bytes bs)

pub encoded : (text : List ℕ) → replaced (32 ∷ []) (43 ∷ []) (percent_encode ESCAPED text) ≡ url_encoded text
encoded text = swapped 32 43 (percent_encode ESCAPED text) ∙ by_bytes text

pub read_back : (text : List ℕ) → IsUtf8 text → All IsByte text → url_decoded (url_encoded text) ≡ Some text
read_back text utf8 bytes =
    rw (
      ← encoded text,
      swapped 32 43 (percent_encode ESCAPED text),
      swapped 43 32 (map (swap 32 43) (percent_encode ESCAPED text)),
      back (percent_encode ESCAPED text) (no_plus text),
      round_trip ESCAPED text percent_is_escaped bytes,
      is_utf8-from_IsUtf8 text utf8,
    ) refl
