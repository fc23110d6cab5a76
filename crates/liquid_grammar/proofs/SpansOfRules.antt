-- The spans of each rule's shapes.
use Rattle.std.proofs.Common.{
  ◌≡◌,
  ℕ,
  zero,
  suc,
  ◌<◌,
  Bool,
  true,
  not,
  ◌||◌,
  ◌==◌,
  List,
  [],
  ◌∷◌,
  ◌++◌,
  length,
  get_or,
  drop,
  IsUtf8,
  refl,
  sym,
  ap,
  ◌∙◌,
  subst,
  arith,
  append_assoc,
  length-append,
  eqb-true,
}
use Rattle.std.proofs.lemmas.Bool.Decides.{nat_tests}
use Rattle.std.proofs.lemmas.Str.{IsCharBoundary-before_ascii, IsUtf8-drop}
use Rattle.std.proofs.Math.Seq.{get_or-append_seam}
use Rattle.std.proofs.Common.{drop_at}
use Rattle.std.specs.Char.{is_ascii_digit}
use Rattle.liquid_grammar.specs.meaning.Bytes.{is_white, starts_name, is_word}
use Rattle.liquid_grammar.specs.meaning.Rules.{Rule, One, Then, Repeated, ends, more, Where, Text}
use Rattle.liquid_grammar.specs.meaning.Grammar.{White, Braces, Opener, Closer, NameByte, Identifier, Name, is_literal_word}
use Rattle.liquid_grammar.specs.meaning.Literals.{
  decimal,
  integer,
  text_literal,
  word_literal,
  Word,
  Quoted,
  Digits,
  Whole,
  Fractional,
  Number,
  LiteralRule,
}
use Rattle.liquid_grammar.specs.meaning.Values.{Value, Index, named_index, gather, placed_literal, placed_variable}
use Rattle.liquid_grammar.specs.meaning.Values.{placed_bracket, Bracketed, IndexOver, VariableOver, ValueOver, Nested, ValueRule}
use Rattle.liquid_grammar.specs.meaning.Tokens.{
  positional,
  keyword,
  range,
  chain,
  symbol,
  arguments_of,
  is_double,
  is_single,
  ArgumentRule,
  Following,
  Arguments,
  FilterRule,
  ChainRule,
  Dots,
  RangeRule,
  SymbolRule,
  TokenRule,
  ExpressionRule,
  TagRule,
}
use Rattle.liquid_grammar.specs.laws.Spans.{
  Span,
  spans_of_all,
  value_spans,
  index_spans,
  indexes_spans,
  argument_spans,
  filter_spans,
  chain_spans,
  token_spans,
  tag_spans,
}
use Rattle.liquid_grammar.proofs.TextLemmas.{is_white_ascii}
use Rattle.liquid_grammar.proofs.SpanLemmas.{
  Spans,
  Reaches,
  no_spans,
  after_ascii,
  spans-run,
  spans-one,
  spans-byte,
  spans-then,
  spans-else,
  spans-repeated,
  spans-seen,
  spans-where,
  spans-text,
  spans-not,
  spans-ahead,
  spans-at,
  spans-right,
  spans-left,
  spans-optional,
}

starts_name_low : (b : ℕ) → starts_name b ≡ true → b < 128
starts_name_low b e = grind (arith, nat_tests)

is_word_low : (b : ℕ) → is_word b ≡ true → b < 128
is_word_low b e = grind (arith, nat_tests)

digit_low : (b : ℕ) → is_ascii_digit b ≡ true → b < 128
digit_low b e = grind (arith, nat_tests)

sign_low : (b : ℕ) → (b == 43 || b == 45) ≡ true → b < 128
sign_low b e = grind (arith, nat_tests)

single_low : (b : ℕ) → is_single b ≡ true → b < 128
single_low b e = grind (arith, nat_tests)

double_low : (a b : ℕ) → is_double (a, b) ≡ true → (a < 128) × (b < 128)
double_low a b e = (grind (arith, nat_tests), grind (arith, nat_tests))

pub spans-white : Spans White no_spans
spans-white = spans-run (spans-one is_white is_white_ascii)

spans-braces : (kind : ℕ) → kind < 128 → Spans (Braces kind) no_spans
spans-braces kind low = spans-right (spans-byte 123 (omega arith)) (spans-byte kind low)

spans-opener : (kind : ℕ) → kind < 128 → Spans (Opener kind) no_spans
spans-opener kind low = spans-else (spans-right (spans-right spans-white (spans-braces kind low)) (spans-byte 45 (omega arith)))
    (spans-braces kind low)

spans-closer : (kind : ℕ) → kind < 128 → Spans (Closer kind) no_spans
spans-closer kind low =
    let last = spans-byte 125 (omega arith) in
    spans-else (spans-left (spans-right (spans-right (spans-byte 45 (omega arith)) (spans-byte kind low)) last) spans-white)
    (spans-right (spans-byte kind low) last)

spans-name_byte : Spans NameByte no_spans
spans-name_byte = spans-else (spans-one is_word is_word_low) (spans-left (spans-byte 45 (omega arith)) spans-ahead)

pub spans-identifier : Spans Identifier no_spans
spans-identifier = spans-text (spans-then (spans-one starts_name starts_name_low) (spans-repeated spans-name_byte))

spans-name : Spans Name no_spans
spans-name = spans-where (λ word. not (is_literal_word word)) spans-identifier

-- what follows an ASCII byte anywhere in a text is text
text_after : (s front rest : List ℕ) (b : ℕ) → s ≡ front ++ b ∷ rest → b < 128 → IsUtf8 s → IsUtf8 rest
text_after s front rest b e low u =
    let within : length front < length s = omega (arith, ap length e, length-append front (b ∷ rest)) in
    let byte : get_or s (length front) 0 ≡ b = ap (λ x. get_or x (length front) 0) e ∙ get_or-append_seam front b rest 0 in
    let cut = IsCharBoundary-before_ascii s (length front) within (subst (λ (x : ℕ). x < 128) (sym byte) low) in
    let following : drop (length front) s ≡ b ∷ rest = ap (drop (length front)) e ∙ drop_at front (b ∷ rest) (length front) refl in
    after_ascii b rest low (subst IsUtf8 following (IsUtf8-drop s (length front) u cut))

run_is_front : (p : ℕ → Bool) {s rest run : List ℕ} → Repeated (One p) s rest run → s ≡ run ++ rest
run_is_front p (ends none) = refl
run_is_front p (more {shape = b} one onward) = one.front ∙ ap (λ r. b ∷ r) (run_is_front p onward)

spans-quoted : (quote : ℕ) → quote < 128 → Spans (Quoted quote) no_spans
spans-quoted quote low = record { of = λ s rest a m u. (go s rest a m u, tt) }
  where
    go : (s rest a : List ℕ) → Quoted quote s rest a → IsUtf8 s → Reaches s rest
    go s rest a m u =
        let start = m.match.before.match in
        let close = m.match.after in
        let front = m.match.before.from.0 ∷ m.match.before.from.1 in
        let run = run_is_front (λ b. not (b == quote)) start.after in
        let whole : s ≡ front ++ m.from.1 ∷ rest = start.before.front ∙ ap (λ x. m.match.before.from.0 ∷ x)
        (run ∙ ap (λ x. m.match.before.from.1 ++ x) close.front) in
        let closes : m.from.1 < 128 = subst (λ (x : ℕ). x < 128) (sym (eqb-true m.from.1 quote close.passes)) low in
        record {
          front = front ++ m.from.1 ∷ [];
          is = whole ∙ sym (append_assoc front (m.from.1 ∷ []) rest);
          text = text_after s front rest m.from.1 whole closes u;
        }

spans-word : Spans Word no_spans
spans-word = spans-seen word_literal (λ a. refl) (spans-where is_literal_word spans-identifier)

spans-digits : Spans Digits no_spans
spans-digits = spans-text (spans-then (spans-one is_ascii_digit digit_low) (spans-repeated (spans-one is_ascii_digit digit_low)))

spans-whole : Spans Whole no_spans
spans-whole = spans-text (spans-then (spans-optional no_spans (λ a. refl) refl (spans-one (λ b. b == 43 || b == 45) sign_low)) spans-digits)

spans-fractional : Spans Fractional no_spans
spans-fractional = spans-text (spans-then spans-whole (spans-then (spans-byte 46 (omega arith)) spans-digits))

spans-number : Spans Number no_spans
spans-number = spans-left (spans-else (spans-seen decimal (λ a. refl) spans-fractional)
    (spans-seen integer (λ a. refl) spans-whole)) spans-not

pub spans-literal : Spans LiteralRule no_spans
spans-literal =
    spans-else
    spans-word
    (spans-else (spans-seen text_literal (λ a. refl)
    (spans-else (spans-quoted 39 (omega arith)) (spans-quoted 34 (omega arith)))) spans-number)

gathered : (is : List Index) → spans_of_all index_spans is ≡ indexes_spans (gather is)
gathered [] = refl
gathered (i ∷ is) = ap (λ x. index_spans i ++ x) (gathered is)

module _ {Inner : Rule Value} (I : Spans Inner value_spans) where
  spans-bracketed : Spans (Bracketed Inner) value_spans
  spans-bracketed = spans-left (spans-right (spans-right (spans-byte 91 (omega arith)) spans-white) I)
      (spans-right spans-white (spans-byte 93 (omega arith)))

  spans-index_over : Spans (IndexOver Inner) index_spans
  spans-index_over = spans-else (spans-seen named_index (λ a. refl) (spans-right (spans-byte 46 (omega arith)) spans-identifier))
      (spans-seen placed_bracket (λ p. refl) (spans-at spans-bracketed))

  spans-variable_over : Spans (VariableOver Inner) value_spans
  spans-variable_over =
      spans-seen placed_variable (λ p. ap (λ x. (p.place, p.following) ∷ x) (gathered p.what.1))
      (spans-at (spans-then spans-name (spans-repeated spans-index_over)))

  spans-value_over : Spans (ValueOver Inner) value_spans
  spans-value_over = spans-else (spans-seen placed_literal (λ p. refl) (spans-at spans-literal)) spans-variable_over

spans-nested : (n : ℕ) → Spans (Nested n) value_spans
unfolding Nested
spans-nested zero = record { of = λ s rest v m u. absurd m }
spans-nested (suc n) = record { of = λ s rest v m u. (spans-value_over (spans-nested n)).of s rest v m u }

pub spans-value : Spans ValueRule value_spans
spans-value = record { of = λ s rest v m u. (spans-nested (suc (length s))).of s rest v m u }

pub spans-argument : Spans ArgumentRule argument_spans
spans-argument =
    spans-else
    (spans-seen (λ p. keyword p.0 p.1) (λ a. refl)
    (spans-then (spans-left (spans-left (spans-left spans-identifier spans-white)
    (spans-byte 58 (omega arith))) spans-white) spans-value))
    (spans-seen positional (λ a. refl) spans-value)

spans-following : {A : Type 0} {R : Rule A} {f : A → List Span} (separator : ℕ) → separator < 128 → Spans R f
    → Spans (Following separator R) f
spans-following separator low R = spans-right (spans-right (spans-right spans-white (spans-byte separator low)) spans-white) R

spans-arguments : Spans Arguments (spans_of_all argument_spans)
spans-arguments =
    spans-seen (λ p. p.0 ∷ p.1) (λ a. refl) (spans-then (spans-following 58 (omega arith) spans-argument)
    (spans-repeated (spans-following 44 (omega arith) spans-argument)))

pub spans-filter : Spans FilterRule filter_spans
spans-filter =
    let some = spans-optional (λ o. spans_of_all argument_spans (arguments_of o)) (λ a. refl) refl spans-arguments in
    spans-at (spans-seen {g = λ q. spans_of_all argument_spans q.1} (λ p. (p.0, arguments_of p.1)) (λ a. refl)
    (spans-then spans-identifier some))

pub spans-chain : Spans ChainRule chain_spans
spans-chain = spans-at (spans-then spans-value (spans-repeated (spans-following 124 (omega arith) spans-filter)))

spans-dots : Spans Dots no_spans
spans-dots = let dot = spans-byte 46 (omega arith) in spans-left (spans-right (spans-right spans-white dot) dot) spans-white

spans-range : Spans RangeRule (λ r. value_spans r.0 ++ value_spans r.1)
spans-range =
    let start = spans-right (spans-byte 40 (omega arith)) spans-white in
    let end = spans-right spans-white (spans-byte 41 (omega arith)) in
    spans-left (spans-right start (spans-then (spans-left spans-value spans-dots) spans-value)) end

spans-double : Spans (Text (Where is_double (Then (One (λ b. true)) (One (λ b. true))))) no_spans
spans-double = record {
  of = λ s rest a m u.
      let pair = m.match.match in
      let low = double_low m.shape.0 m.shape.1 m.match.passes in
      let following = after_ascii m.shape.0 pair.middle low.0 (subst IsUtf8 pair.before.front u) in (
        record {
          front = m.shape.0 ∷ m.shape.1 ∷ [];
          is = pair.before.front ∙ ap (λ x. m.shape.0 ∷ x) pair.after.front;
          text = after_ascii m.shape.1 rest low.1 (subst IsUtf8 pair.after.front following);
        },
        tt,
      );
}

spans-symbol : Spans SymbolRule no_spans
spans-symbol = spans-else spans-double (spans-text (spans-one is_single single_low))

pub spans-token : Spans TokenRule token_spans
spans-token =
    spans-else (spans-seen range (λ p. refl) (spans-at spans-range))
    (spans-else (spans-seen chain (λ c. refl) spans-chain) (spans-seen symbol (λ p. refl) (spans-at spans-symbol)))

pub spans-expression : Spans ExpressionRule chain_spans
spans-expression = spans-left (spans-left
    (spans-right (spans-right (spans-opener 123 (omega arith)) spans-white) spans-chain) spans-white) (spans-closer 125 (omega arith))

pub spans-tag : Spans TagRule tag_spans
spans-tag =
    let start = spans-right (spans-right (spans-opener 37 (omega arith)) spans-white) spans-identifier in
    let tokens = spans-at (spans-repeated (spans-right spans-white spans-token)) in
    spans-left (spans-left (spans-then start tokens) spans-white) (spans-closer 37 (omega arith))
