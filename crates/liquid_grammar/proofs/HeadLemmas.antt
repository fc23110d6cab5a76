-- What a text begins with, by its identifier: a word, or something else.
use Rattle.std.proofs.Common.{
  ◌≡◌,
  ℕ,
  ◌-◌,
  ◌==◌,
  ◌||◌,
  Bool,
  true,
  false,
  not,
  cond,
  List,
  [],
  ◌∷◌,
  length,
  take,
  Option,
  Some,
  None,
  option_map,
  option_and_then,
  refl,
  sym,
  ap,
  ap₂,
  ◌∙◌,
  arith,
}
use Rattle.std.proofs.lemmas.Bool.Decides.{nat_tests}
use Rattle.std.proofs.lemmas.Option.{none-some}
use Rattle.std.specs.Option.{option_or}
use Rattle.std.specs.Char.{is_ascii_digit}
use Rattle.std.specs.Borrow.{Bor}
use Rattle.liquid_grammar.specs.meaning.Bytes.{starts_name}
use Rattle.liquid_grammar.specs.meaning.Grammar.{is_literal_word}
use Rattle.liquid_grammar.specs.meaning.Meanings.{literal_of}
use Rattle.liquid_grammar.specs.meaning.Literals.{Literal, word_literal, decimal, integer, text_literal}
use Rattle.liquid_grammar.specs.declared.literal.Literal.{Literal as CodeLiteral}
use Rattle.liquid_grammar.specs.declared.head.Head.{Head}
use Rattle.liquid_grammar.specs.declared.head.Head.TheVariants as head
use Rattle.liquid_grammar.specs.steps.Heads.{literal_in, name_in, IsHeadOf}
use Rattle.liquid_grammar.specs.steps.Steps.{Reader, one, byte, both, either, seen, text, right, left, run, name_bytes, identifier, name}
use Rattle.liquid_grammar.specs.steps.TokenSteps.{
  quoted,
  text_of_quotes,
  digits,
  sign,
  whole,
  fractional,
  number,
  not_ahead,
  word,
  literal,
  text_or_number,
}
use Rattle.liquid_grammar.proofs.Scanning.{both_none, both_none_after}

not_39 : (b : ℕ) → starts_name b ≡ true → (b == 39) ≡ false
not_39 b e = grind (arith, nat_tests)

not_34 : (b : ℕ) → starts_name b ≡ true → (b == 34) ≡ false
not_34 b e = grind (arith, nat_tests)

not_sign : (b : ℕ) → starts_name b ≡ true → (b == 43 || b == 45) ≡ false
not_sign b e = grind (arith, nat_tests)

not_digit : (b : ℕ) → starts_name b ≡ true → is_ascii_digit b ≡ false
not_digit b e = grind (arith, nat_tests)

pub one_none : (p : ℕ → Bool) (b : ℕ) (t : List ℕ) → p b ≡ false → one p (b ∷ t) ≡ None
one_none p b t e = ap (λ c. cond c (Some (b, t)) None) e

pub seen_none : {A B : Type 0} (h : A → B) (f : Reader A) (s : List ℕ) → f s ≡ None → seen h f s ≡ None
seen_none h f s e = ap (λ o. option_map (λ a. (h a.0, a.1)) o) e

pub right_none : {A B : Type 0} (f : Reader A) (g : Reader B) (s : List ℕ) → f s ≡ None → right f g s ≡ None
right_none f g s e = seen_none (λ p. p.1) (both f g) s (both_none f g s e)

pub left_none : {A B : Type 0} (f : Reader A) (g : Reader B) (s : List ℕ) → f s ≡ None → left f g s ≡ None
left_none f g s e = seen_none (λ p. p.0) (both f g) s (both_none f g s e)

pub text_none : {A : Type 0} (f : Reader A) (s : List ℕ) → f s ≡ None → text f s ≡ None
text_none f s e = ap (λ o. option_map (λ a. (take (length s - length a.1) s, a.1)) o) e

pub either_none : {A : Type 0} (f g : Reader A) (s : List ℕ) → f s ≡ None → g s ≡ None → either f g s ≡ None
either_none f g s e h = ap₂ option_or e h

pub quoted_none : (quote b : ℕ) (t : List ℕ) → (b == quote) ≡ false → quoted quote (b ∷ t) ≡ None
unfolding quoted
quoted_none quote b t e = left_none (right (byte quote) (run (λ c. not (c == quote)))) (byte quote) (b ∷ t)
    (right_none (byte quote) (run (λ c. not (c == quote))) (b ∷ t) (one_none (λ c. c == quote) b t e))

digits_none : (b : ℕ) (t : List ℕ) → is_ascii_digit b ≡ false → digits (b ∷ t) ≡ None
unfolding digits
digits_none b t e = text_none (both (one is_ascii_digit) (run is_ascii_digit)) (b ∷ t)
    (both_none (one is_ascii_digit) (run is_ascii_digit) (b ∷ t) (one_none is_ascii_digit b t e))

sign_none : (b : ℕ) (t : List ℕ) → (b == 43 || b == 45) ≡ false → sign (b ∷ t) ≡ Some (None, b ∷ t)
unfolding sign
sign_none b t e = ap (λ c. option_or (option_map (λ (a : ℕ × List ℕ). (Some a.0, a.1)) (cond c (Some (b, t)) None)) (Some (None, b ∷ t))) e

pub whole_none : (b : ℕ) (t : List ℕ) → (b == 43 || b == 45) ≡ false → is_ascii_digit b ≡ false → whole (b ∷ t) ≡ None
unfolding whole
whole_none b t e f = text_none (both sign digits) (b ∷ t)
    (both_none_after sign digits (b ∷ t) (None, b ∷ t) (sign_none b t e) (digits_none b t f))

pub fractional_none : (s : List ℕ) → whole s ≡ None → fractional s ≡ None
unfolding fractional
fractional_none s e = text_none (both whole (both (byte 46) digits)) s (both_none whole (both (byte 46) digits) s e)

pub number_none : (s : List ℕ) → whole s ≡ None → number s ≡ None
unfolding number
number_none s e = left_none (either (seen decimal fractional) (seen integer whole)) (not_ahead (one starts_name)) s
    (either_none (seen decimal fractional) (seen integer whole) s (seen_none decimal fractional s (fractional_none s e))
    (seen_none integer whole s e))

-- a text that begins with a byte of a name is neither a text between quotes nor a number
at_name_byte : (b : ℕ) (t : List ℕ) → starts_name b ≡ true → text_or_number (b ∷ t) ≡ None
at_name_byte b t e = either_none (seen text_literal text_of_quotes) number (b ∷ t)
    (seen_none text_literal text_of_quotes (b ∷ t)
    (either_none (quoted 39) (quoted 34) (b ∷ t) (quoted_none 39 b t (not_39 b e)) (quoted_none 34 b t (not_34 b e))))
    (number_none (b ∷ t) (whole_none b t (not_sign b e) (not_digit b e)))

byte_of_name : (b : ℕ) (t : List ℕ) (c : Bool) (x : List ℕ × List ℕ) → starts_name b ≡ c → identifier (b ∷ t) ≡ Some x → c ≡ true
unfolding identifier
byte_of_name b t true x e f = refl
byte_of_name b t false x e f = absurd (none-some x
    (sym (text_none (both (one starts_name) name_bytes) (b ∷ t)
    (both_none (one starts_name) name_bytes (b ∷ t) (one_none starts_name b t e))) ∙ f))

no_text_or_number : (s : List ℕ) (x : List ℕ × List ℕ) → identifier s ≡ Some x → text_or_number s ≡ None
unfolding identifier
no_text_or_number [] x e = absurd (none-some x e)
no_text_or_number (b ∷ t) x e = at_name_byte b t (byte_of_name b t (starts_name b) x refl e)

-- what the first word is read as
abbrev word_in : Option (List ℕ × List ℕ) → Option (Literal × List ℕ)
word_in o = option_map (λ a. (word_literal a.0, a.1)) (option_and_then (λ a. cond (is_literal_word a.0) (Some a) None) o)

word_is : (s : List ℕ) → word s ≡ word_in (identifier s)
unfolding word
word_is s = refl

literal_by_word : (s : List ℕ) → literal s ≡ option_or (word_in (identifier s)) (text_or_number s)
unfolding literal
literal_by_word s = ap (λ o. option_or o (text_or_number s)) (word_is s)

-- the literal and the name that a text begins with, by its first word
pub literal_of_word : (s word : List ℕ) (h : Head) (rest : Bor (List ℕ)) → Some (word, rest.now) ≡ identifier s → IsHeadOf word h
    → literal_in (h, rest) ≡ literal s
literal_of_word s word (head.Literal l) rest e p =
    let read : Bool → Option (Literal × List ℕ) =
    λ c. option_or (option_map (λ (a : List ℕ × List ℕ). (word_literal a.0, a.1)) (cond c (Some (word, rest.now)) None))
    (text_or_number s) in
    let made : Literal → Option (Literal × List ℕ) = λ x. Some (x, rest.now) in
    ap made p.1 ∙ ap read (sym p.0) ∙ ap (λ o. option_or (word_in o) (text_or_number s)) e ∙ sym (literal_by_word s)
literal_of_word s word (head.Name n) rest e p =
    let read : Bool → Option (Literal × List ℕ) =
    λ c. option_or (option_map (λ (a : List ℕ × List ℕ). (word_literal a.0, a.1)) (cond c (Some (word, rest.now)) None))
    (text_or_number s) in
    sym (no_text_or_number s (word, rest.now) (sym e)) ∙ ap read (sym p.0) ∙ ap (λ o. option_or (word_in o) (text_or_number s)) e
    ∙ sym (literal_by_word s)

pub name_of_word : (s word : List ℕ) (h : Head) (rest : Bor (List ℕ)) → Some (word, rest.now) ≡ identifier s → IsHeadOf word h
    → name_in (h, rest) ≡ name s
unfolding name
name_of_word s word (head.Literal l) rest e p =
    let read : Bool → Option (List ℕ × List ℕ) = λ c. cond (not c) (Some (word, rest.now)) None in
    ap read (sym p.0) ∙ ap (λ o. option_and_then (λ (a : List ℕ × List ℕ). cond (not (is_literal_word a.0)) (Some a) None) o) e
name_of_word s word (head.Name n) rest e p =
    let read : Bool → Option (List ℕ × List ℕ) = λ c. cond (not c) (Some (word, rest.now)) None in
    let made : List ℕ → Option (List ℕ × List ℕ) = λ x. Some (x, rest.now) in
    ap made p.1 ∙ ap read (sym p.0) ∙ ap (λ o. option_and_then
    (λ (a : List ℕ × List ℕ). cond (not (is_literal_word a.0)) (Some a) None) o) e

pub literal_without_word : (s : List ℕ) (o : Option (Literal × List ℕ)) → None ≡ identifier s → o ≡ text_or_number s → o ≡ literal s
literal_without_word s o e f = f ∙ ap (λ w. option_or (word_in w) (text_or_number s)) e ∙ sym (literal_by_word s)

pub no_name : (s : List ℕ) → None ≡ identifier s → None ≡ name s
unfolding name
no_name s e = ap (λ o. option_and_then (λ a. cond (not (is_literal_word a.0)) (Some a) None) o) e

-- what is known of a text, from the literal or the name that was found there
pub literal_found : (s : List ℕ) (p : Head × Bor (List ℕ)) (l : CodeLiteral) → p.0 ≡ head.Literal l → literal_in p ≡ literal s
    → Some (literal_of l, p.1.now) ≡ literal s
literal_found s p l e f = ap (λ h. literal_in (h, p.1)) (sym e) ∙ f

pub name_found : (s : List ℕ) (p : Head × Bor (List ℕ)) (n : Bor (List ℕ)) → p.0 ≡ head.Name n → name_in p ≡ name s
    → Some (n.now, p.1.now) ≡ name s
name_found s p n e f = ap (λ h. name_in (h, p.1)) (sym e) ∙ f

pub no_literal_found : (s : List ℕ) (p : Head × Bor (List ℕ)) (n : Bor (List ℕ)) → p.0 ≡ head.Name n → literal_in p ≡ literal s
    → None ≡ literal s
no_literal_found s p n e f = ap (λ h. literal_in (h, p.1)) (sym e) ∙ f
