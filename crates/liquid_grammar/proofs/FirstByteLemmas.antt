-- What a text can begin with, by its first byte.
use Rattle.std.proofs.Common.{
  ◌≡◌,
  ℕ,
  ◌==◌,
  ◌||◌,
  ◌⊎◌,
  inl,
  inr,
  Bool,
  true,
  false,
  cond,
  List,
  [],
  ◌∷◌,
  Option,
  Some,
  None,
  option_map,
  slice_index,
  take,
  drop,
  eqb-true,
  refl,
  sym,
  ap,
  ap₂,
  ◌∙◌,
  subst,
  arith,
}
use Rattle.std.proofs.lemmas.Bool.Decides.{nat_tests}
use Rattle.std.proofs.lemmas.Option.{same_Some}
use Rattle.std.specs.Option.{option_or}
use Rattle.std.specs.List.{prefix_len}
use Rattle.std.specs.Char.{is_ascii_digit}
use Rattle.liquid_grammar.specs.meaning.Bytes.{is_white, starts_name}
use Rattle.liquid_grammar.specs.meaning.Literals.{Literal, text_literal}
use Rattle.liquid_grammar.specs.meaning.Rules.{Begins}
use Rattle.liquid_grammar.specs.meaning.Values.{named_index, placed_bracket, IndexRule}
use Rattle.liquid_grammar.specs.meaning.Tokens.{is_single, is_double}
use Rattle.liquid_grammar.specs.meaning.Faults.{index_fault, filter_fault, range_fault, chain_fault}
use Rattle.liquid_grammar.specs.meaning.Meanings.{scan}
use Rattle.liquid_grammar.specs.steps.Steps.{byte, one, both, seen, only, text, right, white, name_bytes, identifier}
use Rattle.liquid_grammar.specs.steps.TokenSteps.{
  placed,
  at,
  any,
  begins_value,
  begins_index,
  begins_filter,
  separated,
  following,
  filter,
  quoted,
  digits,
  sign,
  whole,
  fractional,
  number,
  literal,
  text_of_quotes,
  text_or_number,
  open_bracket,
  close_bracket,
  bracketed_over,
  named,
  value,
  chain_of,
  range_start,
  ranged,
  symbol_of,
}
use Rattle.liquid_grammar.specs.steps.BracketSteps.{index}
use Rattle.liquid_grammar.proofs.HeadLemmas.{
  one_none,
  seen_none,
  right_none,
  left_none,
  either_none,
  text_none,
  quoted_none,
  whole_none,
  number_none,
  literal_without_word,
  no_name,
}
use Rattle.liquid_grammar.proofs.Scanning.{both_none, both_none_after, range_no_start, no_chain_scan}
use Rattle.liquid_grammar.proofs.Exact.{none_begins}
use Rattle.liquid_grammar.proofs.TokenExact.{exact-value, exact-index}
use Rattle.liquid_grammar.proofs.ValueScan.{scan_none, no_value_scan}

-- the first byte, of bytes that were read on the way
pub first_byte : (s bytes : List ℕ) (b : ℕ) → bytes ≡ s → b ≡ slice_index bytes 0 → b ≡ slice_index s 0
first_byte s bytes b same first = first ∙ ap (λ x. slice_index x 0) same

unequal : (b k : ℕ) → ¬ (b ≡ k) → (b == k) ≡ false
unequal b k h = go (b == k) refl
  where
    go : (t : Bool) → (b == k) ≡ t → t ≡ false
    go true e = absurd (h (eqb-true b k e))
    go false e = refl

other_byte : (k : ℕ) (s : List ℕ) → (slice_index s 0 == k) ≡ false → byte k s ≡ None
other_byte k [] e = refl
other_byte k (b ∷ t) e = one_none (λ c. c == k) b t e

-- an index begins with `.` or `[`
not_46 : (b : ℕ) → begins_index b ≡ false → (b == 46) ≡ false
not_46 b e = grind (arith, nat_tests)

not_91 : (b : ℕ) → begins_index b ≡ false → (b == 91) ≡ false
not_91 b e = grind (arith, nat_tests)

no_named : (s : List ℕ) → (slice_index s 0 == 46) ≡ false → named s ≡ None
unfolding named
no_named s e = right_none (byte 46) identifier s (other_byte 46 s e)

no_open_bracket : (s : List ℕ) → (slice_index s 0 == 91) ≡ false → open_bracket s ≡ None
unfolding open_bracket
no_open_bracket s e = right_none (byte 91) white s (other_byte 91 s e)

no_index : (s : List ℕ) → begins_index (slice_index s 0) ≡ false → None ≡ scan (index_fault 0) (index s)
no_index s e =
    let bracket = left_none (right open_bracket value) close_bracket s
    (right_none open_bracket value s (no_open_bracket s (not_91 (slice_index s 0) e))) in
    sym (ap (scan (index_fault 0)) (either_none (seen named_index named) (seen placed_bracket (at (bracketed_over value))) s
    (seen_none named_index named s (no_named s (not_46 (slice_index s 0) e)))
    (seen_none placed_bracket (at (bracketed_over value)) s (ap (option_map (placed s)) bracket))))

pub no_index_here : (s : List ℕ) (b : ℕ) → b ≡ slice_index s 0 → begins_index b ≡ false → None ≡ scan (index_fault 0) (index s)
no_index_here s b first e = no_index s (ap begins_index (sym first) ∙ e)

pub no_index_begins : (s : List ℕ) (b : ℕ) → b ≡ slice_index s 0 → begins_index b ≡ false → ¬ (Begins IndexRule s)
no_index_begins s b first e = none_begins (exact-index exact-value) s (scan_none (index_fault 0) (index s) (no_index_here s b first e))

-- a range begins with `(`
no_range_start : (s : List ℕ) → (slice_index s 0 == 40) ≡ false → range_start s ≡ None
unfolding range_start
no_range_start s e = right_none (byte 40) white s (other_byte 40 s e)

pub no_range_here : (s : List ℕ) (b : ℕ) → b ≡ slice_index s 0 → ¬ (b ≡ 40) → None ≡ scan range_fault (ranged s)
no_range_here s b first other = range_no_start s
    (sym (ap (option_map (λ p. p.1)) (no_range_start s (ap (λ x. x == 40) (sym first) ∙ unequal b 40 other))))

-- a text with a quote
without_quote : (b : ℕ) (t : List ℕ) → (b == 39) ≡ false → (b == 34) ≡ false → number (b ∷ t) ≡ text_or_number (b ∷ t)
without_quote b t e f =
    sym (ap (λ o. option_or o (number (b ∷ t)))
    (seen_none text_literal text_of_quotes (b ∷ t)
    (either_none (quoted 39) (quoted 34) (b ∷ t) (quoted_none 39 b t e) (quoted_none 34 b t f))))

unquoted : (s : List ℕ) → (slice_index s 0 == 39) ≡ false → (slice_index s 0 == 34) ≡ false → number s ≡ text_or_number s
unfolding quoted
unquoted [] e f = refl
unquoted (b ∷ t) e f = without_quote b t e f

pub unquoted_here : (s : List ℕ) (b : ℕ) → b ≡ slice_index s 0 → ¬ (b ≡ 39) → ¬ (b ≡ 34) → number s ≡ text_or_number s
unquoted_here s b first e f = unquoted s (ap (λ x. x == 39) (sym first) ∙ unequal b 39 e) (ap (λ x. x == 34) (sym first) ∙ unequal b 34 f)

abbrev pub as_text : Option (List ℕ × List ℕ) → Option (Literal × List ℕ)
as_text o = option_map (λ a. (text_literal a.0, a.1)) o

first_quote : (o : Option (List ℕ × List ℕ)) → as_text o ≡ option_or (as_text (option_or o None)) None
first_quote (Some a) = refl
first_quote None = refl

second_quote : (o : Option (List ℕ × List ℕ)) → as_text o ≡ option_or (as_text (option_or None o)) None
second_quote (Some a) = refl
second_quote None = refl

at_single : (b : ℕ) (t : List ℕ) → b ≡ 39 → as_text (quoted 39 (b ∷ t)) ≡ text_or_number (b ∷ t)
at_single b t e =
    let no_number = number_none (b ∷ t) (whole_none b t (grind (arith, nat_tests)) (grind (arith, nat_tests))) in
    let other = quoted_none 34 b t (grind (arith, nat_tests)) in
    first_quote (quoted 39 (b ∷ t)) ∙ sym (ap₂ (λ o n. option_or (as_text (option_or (quoted 39 (b ∷ t)) o)) n) other no_number)

at_double : (b : ℕ) (t : List ℕ) → b ≡ 34 → as_text (quoted 34 (b ∷ t)) ≡ text_or_number (b ∷ t)
at_double b t e =
    let no_number = number_none (b ∷ t) (whole_none b t (grind (arith, nat_tests)) (grind (arith, nat_tests))) in
    let other = quoted_none 39 b t (grind (arith, nat_tests)) in
    second_quote (quoted 34 (b ∷ t)) ∙ sym (ap₂ (λ o n. option_or (as_text (option_or o (quoted 34 (b ∷ t)))) n) other no_number)

pub quoted_here : (s : List ℕ) (b : ℕ) → b ≡ slice_index s 0 → (b ≡ 39) ⊎ ((b ≡ 39 → ⊥) × (b ≡ 34))
    → as_text (quoted b s) ≡ text_or_number s
quoted_here [] b first h = elim h [ inl e ↦ absurd (omega (arith, first, e)) | inr e ↦ absurd (omega (arith, first, e.1)) ]
quoted_here (x ∷ t) b first h =
    elim h [
      | inl e ↦ subst (λ (k : ℕ). as_text (quoted k (x ∷ t)) ≡ text_or_number (x ∷ t)) (sym e) (at_single x t (sym first ∙ e))
      | inr e ↦ subst (λ (k : ℕ). as_text (quoted k (x ∷ t)) ≡ text_or_number (x ∷ t)) (sym e.1) (at_double x t (sym first ∙ e.1))
    ]

-- a chain begins as a literal or a name does
not_name : (b : ℕ) → begins_value b ≡ false → starts_name b ≡ false
not_name b e = grind (arith, nat_tests)

not_39 : (b : ℕ) → begins_value b ≡ false → (b == 39) ≡ false
not_39 b e = grind (arith, nat_tests)

not_34 : (b : ℕ) → begins_value b ≡ false → (b == 34) ≡ false
not_34 b e = grind (arith, nat_tests)

not_sign : (b : ℕ) → begins_value b ≡ false → (b == 43 || b == 45) ≡ false
not_sign b e = grind (arith, nat_tests)

not_digit : (b : ℕ) → begins_value b ≡ false → is_ascii_digit b ≡ false
not_digit b e = grind (arith, nat_tests)

no_identifier : (s : List ℕ) → begins_value (slice_index s 0) ≡ false → None ≡ identifier s
unfolding identifier
no_identifier [] e = refl
no_identifier (b ∷ t) e = sym (text_none (both (one starts_name) name_bytes) (b ∷ t)
    (both_none (one starts_name) name_bytes (b ∷ t) (one_none starts_name b t (not_name b e))))

no_number : (s : List ℕ) → begins_value (slice_index s 0) ≡ false → number s ≡ None
unfolding number fractional whole sign digits
no_number [] e = refl
no_number (b ∷ t) e = number_none (b ∷ t) (whole_none b t (not_sign b e) (not_digit b e))

no_literal : (s : List ℕ) → begins_value (slice_index s 0) ≡ false → None ≡ literal s
no_literal s e =
    let b = slice_index s 0 in
    literal_without_word s None (no_identifier s e) (sym (no_number s e) ∙ unquoted s (not_39 b e) (not_34 b e))

pub no_chain_here : (s : List ℕ) (b : ℕ) → b ≡ slice_index s 0 → begins_value b ≡ false → None ≡ scan chain_fault (chain_of s)
no_chain_here s b first h =
    let e = ap begins_value (sym first) ∙ h in
    no_chain_scan s (no_value_scan s (no_literal s e) (no_name s (no_identifier s e)))

pub parenthesis_is_no_value : (b : ℕ) → b ≡ 40 → begins_value b ≡ false
parenthesis_is_no_value b e = ap begins_value e

-- and a symbol as neither of them
no_double : (b : ℕ) (t : List ℕ) → ((c : ℕ) → is_double (b, c) ≡ false) → only is_double (both any any) (b ∷ t) ≡ None
no_double b [] e = refl
no_double b (c ∷ t) e = ap (λ x. cond x (Some ((b, c), t)) None) (e c)

no_symbol : (s : List ℕ) → is_single (slice_index s 0) ≡ false → ((c : ℕ) → is_double (slice_index s 0, c) ≡ false) → symbol_of s ≡ None
unfolding symbol_of
no_symbol [] e f = refl
no_symbol (b ∷ t) e f =
    either_none (text (only is_double (both any any))) (text (one is_single)) (b ∷ t)
    (text_none (only is_double (both any any)) (b ∷ t) (no_double b t f))
    (text_none (one is_single) (b ∷ t) (one_none is_single b t e))

no_single_at_value : (b : ℕ) → begins_value b ≡ true → is_single b ≡ false
no_single_at_value b e = grind (arith, nat_tests)

no_double_at_value : (b c : ℕ) → begins_value b ≡ true → is_double (b, c) ≡ false
no_double_at_value b c e = grind (arith, nat_tests)

pub no_symbol_at_value : (s : List ℕ) (b : ℕ) → b ≡ slice_index s 0 → begins_value b ≡ true → symbol_of s ≡ None
no_symbol_at_value s b first h =
    let e = ap begins_value (sym first) ∙ h in
    no_symbol s (no_single_at_value (slice_index s 0) e) (λ c. no_double_at_value (slice_index s 0) c e)

no_double_at_parenthesis : (b c : ℕ) → b ≡ 40 → is_double (b, c) ≡ false
no_double_at_parenthesis b c e = grind (arith, nat_tests)

pub no_symbol_at_parenthesis : (s : List ℕ) (b : ℕ) → b ≡ slice_index s 0 → b ≡ 40 → symbol_of s ≡ None
no_symbol_at_parenthesis s b first h =
    let e = sym first ∙ h in
    no_symbol s (ap is_single e) (λ c. no_double_at_parenthesis (slice_index s 0) c e)

pub no_rest : (s : List ℕ) → symbol_of s ≡ None → None ≡ option_map (λ p. p.1) (symbol_of s)
no_rest s e = sym (ap (option_map (λ p. p.1)) e)

-- a filter begins with `|` after whitespace
pub bar_after : (s place : List ℕ) → Some place ≡ option_map (λ p. p.1) (white s) → (slice_index place 0 == 124) ≡ begins_filter s
unfolding white
bar_after s place e = ap (λ t. slice_index t 0 == 124) (same_Some _ _ e)

no_bar : (s : List ℕ) → begins_filter s ≡ false → right white (byte 124) s ≡ None
unfolding white
no_bar s e =
    let n = prefix_len is_white s in
    seen_none (λ p. p.1) (both white (byte 124)) s
    (both_none_after white (byte 124) s (take n s, drop n s) refl (other_byte 124 (drop n s) e))

pub no_filter_here : (s : List ℕ) → begins_filter s ≡ false → None ≡ scan filter_fault (following 124 filter s)
no_filter_here s e = sym (ap (scan filter_fault)
    (right_none (separated 124) filter s (right_none (right white (byte 124)) white s (no_bar s e))))
