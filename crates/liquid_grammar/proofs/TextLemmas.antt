-- Steps over a text: runs of bytes, names, and where a text may be cut.
use Rattle.std.proofs.Common.{
  ◌≡◌,
  ℕ,
  zero,
  suc,
  ◌+◌,
  ◌-◌,
  ◌<◌,
  ◌≤◌,
  Bool,
  true,
  false,
  cond,
  not,
  ◌&&◌,
  ◌||◌,
  ◌==◌,
  List,
  [],
  ◌∷◌,
  ◌++◌,
  length,
  get_or,
  take,
  drop,
  IsUtf8,
  refl,
  sym,
  ap,
  ◌∙◌,
  subst,
  inl,
  inr,
  arith,
  add-one,
  add-zero,
  get_or-drop,
  eqb-true,
  length-take-le,
  length-drop,
  slice_index,
  drop_of_length-le,
}
use Rattle.std.proofs.lemmas.Bool.{cases_lt, and_parts}
use Rattle.std.proofs.lemmas.Bool.Decides.{nat_tests}
use Rattle.std.proofs.lemmas.List.{drop_more, get_or_past}
use Rattle.std.proofs.lemmas.List.Sums.{prefix_len-le-length, prefix_len_passes, prefix_len_stops}
use Rattle.std.proofs.lemmas.Str.{
  IsCharBoundary-start,
  IsCharBoundary-end,
  IsCharBoundary-before_ascii,
  IsCharBoundary-after_ascii,
  IsCharBoundary-at_seam,
}
use Rattle.std.specs.Char.{is_ascii_digit}
use Rattle.std.specs.List.{prefix_len}
use Rattle.std.specs.Str.{IsCharBoundary}
use Rattle.liquid_grammar.specs.meaning.Bytes.{is_white, starts_name, is_word}
use Rattle.liquid_grammar.specs.meaning.Tokens.{is_single, is_double}
use Rattle.liquid_grammar.specs.steps.Steps.{is_name_byte, name_len}

-- a byte that is not 0 was read inside the text
pub within_from_byte : (xs : List ℕ) (i : ℕ) → 0 < get_or xs i 0 → i < length xs
within_from_byte xs i h = elim (cases_lt i (length xs)) [ inl within ↦ within | inr past ↦ absurd (omega (arith, get_or_past xs i 0 past)) ]

after_ascii_run : (p : ℕ → Bool) (bs : List ℕ) (n : ℕ) → prefix_len p bs ≡ n → IsUtf8 bs → ((c : ℕ) → p c ≡ true → c < 128)
    → IsCharBoundary bs n
after_ascii_run p bs zero e utf8 ascii = IsCharBoundary-start bs utf8
after_ascii_run p bs (suc k) e utf8 ascii =
    rw (← add-one) (IsCharBoundary-after_ascii bs k utf8 (omega (arith, prefix_len-le-length p bs))
    (ascii _ (prefix_len_passes p bs k 0 (omega arith))))

-- a run of ASCII bytes ends where a character does
pub IsCharBoundary-ascii_run : (p : ℕ → Bool) (bs : List ℕ) → IsUtf8 bs → ((c : ℕ) → p c ≡ true → c < 128)
    → IsCharBoundary bs (prefix_len p bs)
IsCharBoundary-ascii_run p bs = after_ascii_run p bs _ refl

pub is_white_ascii : (c : ℕ) → is_white c ≡ true → c < 128
is_white_ascii c e = grind (arith, nat_tests)

pub IsCharBoundary-white_run : (bs : List ℕ) → IsUtf8 bs → IsCharBoundary bs (prefix_len is_white bs)
IsCharBoundary-white_run bs utf8 = IsCharBoundary-ascii_run is_white bs utf8 is_white_ascii

-- one turn of `name_len`, at an index
pub name_len_turn : (xs : List ℕ) (i : ℕ) → i < length xs → name_len (drop i xs) ≡ cond
    (is_word (get_or xs i 0) || (get_or xs i 0 == 45 && is_word (get_or xs (i + 1) 0))) (1 + name_len (drop (i + 1) xs)) 0
unfolding name_len
name_len_turn xs i h =
    let next : get_or (drop (i + 1) xs) 0 0 ≡ get_or xs (i + 1) 0 = rw (get_or-drop (i + 1) xs 0 0, add-zero) in
    rw (drop_more xs i 0 h, next)

pub name_len_end : (xs : List ℕ) (i : ℕ) → length xs ≤ i → name_len (drop i xs) ≡ 0
unfolding name_len
name_len_end xs i h = ap name_len (drop_of_length-le xs h)

name_byte_ascii : (b : ℕ) (s : List ℕ) → is_name_byte b s ≡ true → b < 128
name_byte_ascii b s e = go (is_word b) refl e
  where
    word_ascii : is_word b ≡ true → b < 128
    word_ascii h = grind (arith, nat_tests)

    dash_ascii : (t : Bool) → (b == 45 && t) ≡ true → b < 128
    dash_ascii t h = omega (arith, eqb-true b 45 (and_parts (b == 45) t h).0)

    go : (t : Bool) → is_word b ≡ t → (t || (b == 45 && is_word (slice_index s 0))) ≡ true → b < 128
    go true h e = word_ascii h
    go false h e = dash_ascii _ e

-- a name is ASCII
pub name_len_ascii : (xs : List ℕ) (k : ℕ) → k < name_len xs → get_or xs k 0 < 128
unfolding name_len
name_len_ascii [] k h = absurd (omega arith)
name_len_ascii (b ∷ xs) k h = go (is_name_byte b xs) refl k h (λ j. name_len_ascii xs j)
  where
    go : (t : Bool) → is_name_byte b xs ≡ t → (k : ℕ) → k < cond t (1 + name_len xs) 0
        → ((j : ℕ) → j < name_len xs → get_or xs j 0 < 128) → get_or (b ∷ xs) k 0 < 128
    go true e zero h more = name_byte_ascii b xs e
    go true e (suc k) h more = more k (omega arith)
    go false e k h more = absurd (omega arith)

pub name_len-le-length : (xs : List ℕ) → name_len xs ≤ length xs
unfolding name_len
name_len-le-length [] = omega arith
name_len-le-length (b ∷ xs) = go (is_name_byte b xs) (name_len-le-length xs)
  where
    go : (t : Bool) → name_len xs ≤ length xs → cond t (1 + name_len xs) 0 ≤ length (b ∷ xs)
    go true h = omega arith
    go false h = omega arith

starts_name_ascii : (b : ℕ) → starts_name b ≡ true → (0 < b) × (b < 128)
starts_name_ascii b e = (grind (arith, nat_tests), grind (arith, nat_tests))

-- a text may be cut after its identifier
pub IsCharBoundary-identifier : (s : List ℕ) → IsUtf8 s → starts_name (get_or s 0 0) ≡ true → IsCharBoundary s (1 + name_len (drop 1 s))
IsCharBoundary-identifier s utf8 e = go (name_len (drop 1 s)) refl
  where
    some : 0 < length s
    some = within_from_byte s 0 (starts_name_ascii (get_or s 0 0) e).0

    go : (n : ℕ) → name_len (drop 1 s) ≡ n → IsCharBoundary s (1 + n)
    go zero h = IsCharBoundary-after_ascii s 0 utf8 some (starts_name_ascii (get_or s 0 0) e).1
    go (suc n) h =
        let last : get_or s (1 + n) 0 < 128 = rw get_or-drop at (name_len_ascii (drop 1 s) n (omega arith)) in
        let within : 1 + n < length s = omega (arith, name_len-le-length (drop 1 s), length-drop 1 s) in
        let more : 1 + n + 1 ≡ 1 + suc n = omega arith in
        subst (IsCharBoundary s) more (IsCharBoundary-after_ascii s (1 + n) utf8 within last)

-- a text may be cut before an end of it that is text
pub IsCharBoundary-before_rest : (s rest : List ℕ) → IsUtf8 rest → s ≡ take (length s - length rest) s ++ rest
    → IsCharBoundary s (length s - length rest)
IsCharBoundary-before_rest s rest utf8 e =
    let n = length s - length rest in
    let l : length (take n s) ≡ n = omega (arith, length-take-le n s (omega arith)) in
    subst (IsCharBoundary s) l (IsCharBoundary-at_seam s (take n s) rest e utf8)

-- the same, for bytes that were read on the way
pub identifier_cut : (s bytes tail : List ℕ) (n : ℕ) → IsUtf8 s → bytes ≡ s → tail ≡ drop 1 bytes → n ≡ name_len tail
    → starts_name (get_or bytes 0 0) ≡ true → IsCharBoundary s (1 + n)
identifier_cut s bytes tail n utf8 same rest len start =
    let count : name_len (drop 1 s) ≡ n = ap (λ x. name_len (drop 1 x)) (sym same) ∙ ap name_len (sym rest) ∙ sym len in
    subst (λ (k : ℕ). IsCharBoundary s (1 + k)) count
    (IsCharBoundary-identifier s utf8 (ap (λ x. starts_name (get_or x 0 0)) (sym same) ∙ start))

-- a run that only an ASCII byte stops ends where a character does
pub IsCharBoundary-wide_run : (p : ℕ → Bool) (bs : List ℕ) → ((c : ℕ) → p c ≡ false → c < 128) → IsCharBoundary bs (prefix_len p bs)
IsCharBoundary-wide_run p bs ascii =
    elim (cases_lt (prefix_len p bs) (length bs)) [
      | inl within ↦ IsCharBoundary-before_ascii bs _ within (ascii _ (prefix_len_stops p bs 0 within))
      | inr past ↦ subst (IsCharBoundary bs) (omega (arith, prefix_len-le-length p bs)) (IsCharBoundary-end bs)
    ]

-- the same, for bytes that were read on the way
pub quoted_cut : (s bytes : List ℕ) (quote n : ℕ) → quote < 128 → bytes ≡ s → n ≡ prefix_len (λ b. not (b == quote)) bytes
    → IsCharBoundary s n
quoted_cut s bytes quote n low same len =
    let stop : (c : ℕ) → not (c == quote) ≡ false → c < 128 = λ c e. quote_ascii c quote low e in
    subst (IsCharBoundary s) (sym (len ∙ ap (prefix_len (λ b. not (b == quote))) same))
    (IsCharBoundary-wide_run (λ b. not (b == quote)) s stop)
  where
    quote_ascii : (c quote : ℕ) → quote < 128 → not (c == quote) ≡ false → c < 128
    quote_ascii c quote low e = grind (arith, nat_tests)

pub digits_cut : (s bytes : List ℕ) (n : ℕ) → IsUtf8 s → bytes ≡ s → n ≡ prefix_len is_ascii_digit bytes → IsCharBoundary s n
digits_cut s bytes n utf8 same len =
    subst (IsCharBoundary s) (sym (len ∙ ap (prefix_len is_ascii_digit) same))
    (IsCharBoundary-ascii_run is_ascii_digit s utf8 (λ c e. digit_ascii c e))
  where
    digit_ascii : (c : ℕ) → is_ascii_digit c ≡ true → c < 128
    digit_ascii c e = grind (arith, nat_tests)

-- a text may be cut after a symbol
pub symbol_cut : (s bytes : List ℕ) → IsUtf8 s → bytes ≡ s → 0 < length bytes → is_single (get_or bytes 0 0) ≡ true → IsCharBoundary s 1
symbol_cut s bytes utf8 same some e =
    let low : get_or bytes 0 0 < 128 = single_ascii (get_or bytes 0 0) e in
    IsCharBoundary-after_ascii s 0 utf8 (subst (λ (x : List ℕ). 0 < length x) same some)
    (subst (λ (x : List ℕ). get_or x 0 0 < 128) same low)
  where
    single_ascii : (b : ℕ) → is_single b ≡ true → b < 128
    single_ascii b e = grind (arith, nat_tests)

pub double_cut : (s bytes : List ℕ) → IsUtf8 s → bytes ≡ s → 1 < length bytes → is_double (get_or bytes 0 0, get_or bytes 1 0) ≡ true
    → IsCharBoundary s 2
double_cut s bytes utf8 same some e =
    let low : get_or bytes 1 0 < 128 = double_ascii (get_or bytes 0 0) (get_or bytes 1 0) e in
    IsCharBoundary-after_ascii s 1 utf8 (subst (λ (x : List ℕ). 1 < length x) same some)
    (subst (λ (x : List ℕ). get_or x 1 0 < 128) same low)
  where
    double_ascii : (a b : ℕ) → is_double (a, b) ≡ true → b < 128
    double_ascii a b e = grind (arith, nat_tests)
