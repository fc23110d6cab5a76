-- Where whitespace and a numeral end.
use Rattle.std.proofs.Common.{
  ◌≡◌,
  ℕ,
  zero,
  suc,
  ◌+◌,
  ◌-◌,
  ◌<◌,
  ◌≤◌,
  Bool,
  true,
  List,
  length,
  drop,
  get_or,
  sym,
  ap,
  ◌∙◌,
  arith,
  subst,
  length-drop,
  reverse,
}
use Rattle.std.specs.List.{prefix_len}
use Rattle.std.specs.Str.{IsCharBoundary, IsUtf8}
use Rattle.std.proofs.lemmas.Bool.Decides.{nat_tests}
use Rattle.std.proofs.lemmas.List.{get_or-drop, get_or-reverse, length-reverse}
use Rattle.std.proofs.lemmas.List.Sums.{prefix_len_passes, prefix_len-le-length}
use Rattle.std.proofs.lemmas.Str.{IsCharBoundary-after_ascii, IsCharBoundary-before_ascii, IsCharBoundary-end, IsCharBoundary-start}
use Rattle.liquid_jekyll.specs.meaning.text.CharacterSets.{is_space}
use Rattle.liquid_jekyll.specs.meaning.text.Numerals.{is_digit}

space_is_ascii : (b : ℕ) → is_space b ≡ true → b < 128
space_is_ascii b is = grind (arith, nat_tests)

digit_is_ascii : (b : ℕ) → is_digit b ≡ true → b < 128
digit_is_ascii b is = grind (arith, nat_tests)

-- the text may be cut after bytes that all are ASCII
cut_after : (p : ℕ → Bool) → ((b : ℕ) → p b ≡ true → b < 128) → (text : List ℕ) (start n : ℕ) → IsUtf8 text → 0 < n
    → start + n ≤ length text → n ≤ prefix_len p (drop start text) → IsCharBoundary text (start + n)
cut_after p ascii text start zero utf8 some within fits = absurd (omega arith)
cut_after p ascii text start (suc k) utf8 some within fits =
    let here : k < prefix_len p (drop start text) = omega arith in
    let passes : p (get_or text (start + k) 0) ≡ true =
    ap p (sym (get_or-drop start text k 0)) ∙ prefix_len_passes p (drop start text) k 0 here in
    let low : get_or text (start + k) 0 < 128 = ascii (get_or text (start + k) 0) passes in
    let inside : start + k < length text = omega arith in
    let place : start + k + 1 ≡ start + suc k = omega arith in
    subst (λ i. IsCharBoundary text i) place (IsCharBoundary-after_ascii text (start + k) utf8 inside low)

pub ends_digits : (text : List ℕ) (start n : ℕ) → IsUtf8 text → 0 < n → start ≤ length text → n ≡ prefix_len is_digit (drop start text)
    → IsCharBoundary text (start + n)
ends_digits text start n utf8 some within is =
    cut_after is_digit digit_is_ascii text start n utf8 some
    (omega (arith, prefix_len-le-length is_digit (drop start text), length-drop start text)) (omega arith)

pub starts_words : (text : List ℕ) (n : ℕ) → IsUtf8 text → n ≡ prefix_len is_space text → IsCharBoundary text n
starts_words text zero utf8 is = IsCharBoundary-start text utf8
starts_words text (suc k) utf8 is =
    let place : 0 + suc k ≡ suc k = omega arith in
    subst (λ i. IsCharBoundary text i) place
    (cut_after is_space space_is_ascii text 0 (suc k) utf8 (omega arith)
    (omega (arith, prefix_len-le-length is_space text)) (omega arith))

-- what is before whitespace at the end
pub ends_words : (text : List ℕ) (n : ℕ) → n ≡ prefix_len is_space (reverse text) → IsCharBoundary text (length text - n)
ends_words text zero is = subst (λ i. IsCharBoundary text i) (omega arith) (IsCharBoundary-end text)
ends_words text (suc k) is =
    let spaces : suc k ≤ length text =
    omega (arith, prefix_len-le-length is_space (reverse text), length-reverse text) in
    let here : k < length text = omega arith in
    let place : length text - 1 - k ≡ length text - suc k = omega arith in
    let passes : is_space (get_or text (length text - suc k) 0) ≡ true =
    ap (λ i. is_space (get_or text i 0)) (sym place) ∙ ap is_space (sym (get_or-reverse text k 0 here))
    ∙ prefix_len_passes is_space (reverse text) k 0 (omega arith) in
    IsCharBoundary-before_ascii text (length text - suc k) (omega arith) (space_is_ascii (get_or text (length text - suc k) 0) passes)
