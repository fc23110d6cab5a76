-- The readers of literals, values, filters, chains, tokens and tags are exact.
use Rattle.std.proofs.Common.{ℕ, zero, suc, true, not, ◌||◌, ◌==◌, ◌∷◌, length}
use Rattle.std.proofs.lemmas.Option.{none-some}
use Rattle.std.specs.Char.{is_ascii_digit}
use Rattle.liquid_grammar.specs.meaning.Bytes.{starts_name}
use Rattle.liquid_grammar.specs.meaning.Rules.{Rule, One, Then, Repeated, Byte, Optional, ◌▷◌, ◌◁◌}
use Rattle.liquid_grammar.specs.meaning.Grammar.{White, Identifier, Name, is_literal_word}
use Rattle.liquid_grammar.specs.meaning.Literals.{
  word_literal,
  text_literal,
  integer,
  decimal,
  Word,
  Quoted,
  Digits,
  Whole,
  Fractional,
  Number,
  LiteralRule,
}
use Rattle.liquid_grammar.specs.meaning.Values.{
  Value,
  named_index,
  placed_literal,
  placed_variable,
  placed_bracket,
  OpenBracket,
  CloseBracket,
  Bracketed,
  IndexOver,
  VariableOver,
  ValueOver,
  Nested,
  ValueRule,
}
use Rattle.liquid_grammar.specs.meaning.Tokens.{
  positional,
  keyword,
  range,
  chain,
  symbol,
  arguments_of,
  is_double,
  is_single,
  ArgumentRule,
  Following,
  Arguments,
  FilterRule,
  ChainRule,
  Dots,
  RangeStart,
  RangeEnd,
  RangeRule,
  SymbolRule,
  TokenRule,
  ExpressionStart,
  ExpressionRule,
  TagStart,
  TagRule,
}
use Rattle.liquid_grammar.specs.steps.Steps.{Reader, right, white}
use Rattle.liquid_grammar.specs.steps.TokenSteps as read
use Rattle.liquid_grammar.proofs.Exact.{
  Exact,
  Shrinks,
  exact-one,
  exact-byte,
  exact-both,
  exact-either,
  exact-seen,
  exact-right,
  exact-left,
  exact-only,
  exact-text,
  shrinks-one,
  shrinks-first,
  shrinks-second,
  shrinks-seen,
  shrinks-else,
  shrinks-text,
}
use Rattle.liquid_grammar.proofs.GrammarExact.{
  shrinks-opener,
  exact-white,
  exact-run,
  exact-identifier,
  exact-name,
  exact-opener,
  exact-closer,
  exact-name_bytes,
}
use Rattle.liquid_grammar.proofs.ExactRepeated.{exact-not_ahead, exact-optional, exact-at, exact-repeated}

pub exact-word : Exact read.word Word
unfolding read.word
exact-word = exact-seen word_literal (exact-only is_literal_word exact-identifier)

pub exact-quoted : (quote : ℕ) → Exact (read.quoted quote) (Quoted quote)
unfolding read.quoted
exact-quoted quote = exact-left (exact-right (exact-byte quote) (exact-run (λ b. not (b == quote)))) (exact-byte quote)

pub exact-digits : Exact read.digits Digits
unfolding read.digits
exact-digits = exact-text (exact-both (exact-one is_ascii_digit) (exact-run is_ascii_digit))

pub exact-sign : Exact read.sign (Optional (One (λ b. b == 43 || b == 45)))
unfolding read.sign
exact-sign = exact-optional (exact-one (λ b. b == 43 || b == 45))

pub exact-whole : Exact read.whole Whole
unfolding read.whole
exact-whole = exact-text (exact-both exact-sign exact-digits)

pub exact-fraction : Exact read.fraction (Then (Byte 46) Digits)
exact-fraction = exact-both (exact-byte 46) exact-digits

pub exact-fractional : Exact read.fractional Fractional
unfolding read.fractional
exact-fractional = exact-text (exact-both exact-whole exact-fraction)

pub exact-number : Exact read.number Number
unfolding read.number
exact-number = exact-left (exact-either (exact-seen decimal exact-fractional) (exact-seen integer exact-whole))
    (exact-not_ahead (exact-one starts_name))

pub exact-literal : Exact read.literal LiteralRule
unfolding read.literal
exact-literal = exact-either exact-word (exact-either
    (exact-seen text_literal (exact-either (exact-quoted 39) (exact-quoted 34))) exact-number)

pub shrinks-identifier : Shrinks Identifier
shrinks-identifier = shrinks-text (shrinks-first (shrinks-one starts_name) exact-name_bytes.cuts)

pub shrinks-name : Shrinks Name
shrinks-name s rest a m = shrinks-identifier s rest a m.match

pub exact-open_bracket : Exact read.open_bracket OpenBracket
unfolding read.open_bracket
exact-open_bracket = exact-right (exact-byte 91) exact-white

pub shrinks-open_bracket : Shrinks OpenBracket
shrinks-open_bracket = shrinks-seen (λ p. p.1) (shrinks-first (shrinks-one (λ c. c == 91)) exact-white.cuts)

pub exact-close_bracket : Exact read.close_bracket CloseBracket
unfolding read.close_bracket
exact-close_bracket = exact-right exact-white (exact-byte 93)

pub exact-bracketed : {f : Reader Value} {R : Rule Value} → Exact f R → Exact (read.bracketed_over f) (Bracketed R)
exact-bracketed F = exact-left (exact-right exact-open_bracket F) exact-close_bracket

pub shrinks-bracketed : {f : Reader Value} {R : Rule Value} → Exact f R → Shrinks (Bracketed R)
shrinks-bracketed F = shrinks-seen (λ p. p.0)
    (shrinks-first (shrinks-seen (λ p. p.1) (shrinks-first shrinks-open_bracket F.cuts)) exact-close_bracket.cuts)

pub exact-named : Exact read.named (Byte 46 ▷ Identifier)
unfolding read.named
exact-named = exact-right (exact-byte 46) exact-identifier

pub exact-index : {f : Reader Value} {R : Rule Value} → Exact f R → Exact (read.index_over f) (IndexOver R)
exact-index F = exact-either (exact-seen named_index exact-named) (exact-seen placed_bracket (exact-at (exact-bracketed F)))

pub shrinks-index : {f : Reader Value} {R : Rule Value} → Exact f R → Shrinks (IndexOver R)
shrinks-index F =
    shrinks-else (shrinks-seen named_index (shrinks-seen (λ p. p.1) (shrinks-first (shrinks-one (λ c. c == 46)) exact-identifier.cuts)))
    (shrinks-seen placed_bracket (λ s rest a m. shrinks-bracketed F s rest a.what m.match))

pub exact-indexes : {f : Reader Value} {R : Rule Value} → Exact f R → Exact (read.repeated (read.index_over f)) (Repeated (IndexOver R))
exact-indexes F = exact-repeated (exact-index F) (shrinks-index F)

pub exact-variable : {f : Reader Value} {R : Rule Value} → Exact f R → Exact (read.variable_over f) (VariableOver R)
exact-variable F = exact-seen placed_variable (exact-at (exact-both exact-name (exact-indexes F)))

pub exact-value_over : {f : Reader Value} {R : Rule Value} → Exact f R → Exact (read.value_over f) (ValueOver R)
exact-value_over F = exact-either (exact-seen placed_literal (exact-at exact-literal)) (exact-variable F)

pub exact-nested : (n : ℕ) → Exact (read.value_by n) (Nested n)
unfolding read.value_by Nested
exact-nested zero = record {
  sound = λ s rest a e. absurd (none-some _ e);
  complete = λ s rest a m. absurd m;
  cuts =
      λ s rest a m. absurd m;
}
exact-nested (suc n) = exact-value_over (exact-nested n)

pub exact-value : Exact read.value ValueRule
unfolding read.value
exact-value = record {
  sound = λ s rest a e. (exact-nested (suc (length s))).sound s rest a e;
  complete = λ s rest a m. (exact-nested (suc (length s))).complete s rest a m;
  cuts = λ s rest a m. (exact-nested (suc (length s))).cuts s rest a m;
}

pub exact-keyword_start : Exact read.keyword_start (Identifier ◁ White ◁ Byte 58 ◁ White)
unfolding read.keyword_start
exact-keyword_start = exact-left (exact-left (exact-left exact-identifier exact-white) (exact-byte 58)) exact-white

pub exact-argument : Exact read.argument ArgumentRule
unfolding read.argument
exact-argument = exact-either (exact-seen (λ p. keyword p.0 p.1) (exact-both exact-keyword_start exact-value))
    (exact-seen positional exact-value)

pub exact-following : {A : Type 0} {f : Reader A} {R : Rule A} (separator : ℕ) → Exact f R
    → Exact (read.following separator f) (Following separator R)
exact-following separator F = exact-right (exact-right (exact-right exact-white (exact-byte separator)) exact-white) F

pub shrinks-following : {A : Type 0} {f : Reader A} {R : Rule A} (separator : ℕ) → Exact f R → Shrinks (Following separator R)
shrinks-following separator F =
    shrinks-seen (λ p. p.1) (shrinks-first (shrinks-seen (λ p. p.1)
    (shrinks-first (shrinks-seen (λ p. p.1) (shrinks-second exact-white.cuts
    (shrinks-one (λ c. c == separator)))) exact-white.cuts)) F.cuts)

pub exact-more_arguments : Exact (read.repeated (read.following 44 read.argument)) (Repeated (Following 44 ArgumentRule))
exact-more_arguments = exact-repeated (exact-following 44 exact-argument) (shrinks-following 44 exact-argument)

pub exact-arguments : Exact read.arguments Arguments
unfolding read.arguments
exact-arguments = exact-seen (λ p. p.0 ∷ p.1) (exact-both (exact-following 58 exact-argument) exact-more_arguments)

pub exact-filter : Exact read.filter FilterRule
unfolding read.filter
exact-filter = exact-at (exact-seen (λ p. (p.0, arguments_of p.1)) (exact-both exact-identifier (exact-optional exact-arguments)))

pub shrinks-filter : Shrinks FilterRule
shrinks-filter s rest a m = shrinks-seen (λ p. (p.0, arguments_of p.1))
    (shrinks-first shrinks-identifier (exact-optional exact-arguments).cuts) s rest a.what m.match

pub exact-filters : Exact (read.repeated (read.following 124 read.filter)) (Repeated (Following 124 FilterRule))
exact-filters = exact-repeated (exact-following 124 exact-filter) (shrinks-following 124 exact-filter)

pub exact-chain : Exact read.chain_of ChainRule
unfolding read.chain_of
exact-chain = exact-at (exact-both exact-value exact-filters)

pub exact-dots : Exact read.dots Dots
unfolding read.dots
exact-dots = exact-left (exact-right (exact-right exact-white (exact-byte 46)) (exact-byte 46)) exact-white

pub exact-range_start : Exact read.range_start RangeStart
unfolding read.range_start
exact-range_start = exact-right (exact-byte 40) exact-white

pub exact-range_end : Exact read.range_end RangeEnd
unfolding read.range_end
exact-range_end = exact-right exact-white (exact-byte 41)

pub exact-range : Exact read.ranged RangeRule
unfolding read.ranged
exact-range = exact-left (exact-right exact-range_start (exact-both (exact-left exact-value exact-dots) exact-value)) exact-range_end

exact-any : Exact read.any (One (λ b. true))
exact-any = exact-one (λ b. true)

pub exact-symbol : Exact read.symbol_of SymbolRule
unfolding read.symbol_of
exact-symbol = exact-either (exact-text (exact-only is_double (exact-both exact-any exact-any))) (exact-text (exact-one is_single))

pub exact-token : Exact read.token TokenRule
unfolding read.token
exact-token = exact-either (exact-seen range (exact-at exact-range))
    (exact-either (exact-seen chain exact-chain) (exact-seen symbol (exact-at exact-symbol)))

exact-expression_start : Exact read.expression_start ExpressionStart
unfolding read.expression_start
exact-expression_start = exact-right (exact-opener 123) exact-white

exact-tag_start : Exact read.tag_start TagStart
unfolding read.tag_start
exact-tag_start = exact-right (exact-right (exact-opener 37) exact-white) exact-identifier

pub exact-full_expression : Exact read.full_expression ExpressionRule
unfolding read.full_expression
exact-full_expression = exact-left (exact-left (exact-right exact-expression_start exact-chain) exact-white) (exact-closer 125)

shrinks-digits : Shrinks Digits
shrinks-digits = shrinks-text (shrinks-first (shrinks-one is_ascii_digit) (exact-run is_ascii_digit).cuts)

shrinks-whole : Shrinks Whole
shrinks-whole = shrinks-text (shrinks-second exact-sign.cuts shrinks-digits)

shrinks-number : Shrinks Number
shrinks-number =
    shrinks-seen (λ p. p.0) (shrinks-first (shrinks-else
    (shrinks-seen decimal (shrinks-text (shrinks-first shrinks-whole (exact-both (exact-byte 46) exact-digits).cuts)))
    (shrinks-seen integer shrinks-whole)) (exact-not_ahead (exact-one starts_name)).cuts)

shrinks-quoted : (quote : ℕ) → Shrinks (Quoted quote)
shrinks-quoted quote =
    shrinks-seen (λ p. p.0) (shrinks-second (exact-right (exact-byte quote) (exact-run (λ b. not (b == quote)))).cuts
    (shrinks-one (λ c. c == quote)))

pub shrinks-literal : Shrinks LiteralRule
shrinks-literal =
    shrinks-else (shrinks-seen word_literal (λ s rest a m. shrinks-identifier s rest a m.match))
    (shrinks-else (shrinks-seen text_literal (shrinks-else (shrinks-quoted 39) (shrinks-quoted 34))) shrinks-number)

shrinks-value_over : {f : Reader Value} {R : Rule Value} → Exact f R → Shrinks (ValueOver R)
shrinks-value_over F =
    shrinks-else (shrinks-seen placed_literal (λ s rest a m. shrinks-literal s rest a.what m.match))
    (shrinks-seen placed_variable (λ s rest a m. shrinks-first shrinks-name (exact-indexes F).cuts s rest a.what m.match))

pub shrinks-value : Shrinks ValueRule
unfolding Nested
shrinks-value s rest a m = shrinks-value_over (exact-nested (length s)) s rest a m

pub shrinks-chain : Shrinks ChainRule
shrinks-chain s rest a m = shrinks-first shrinks-value exact-filters.cuts s rest a.what m.match

shrinks-range : Shrinks RangeRule
shrinks-range =
    shrinks-seen (λ p. p.0) (shrinks-first (shrinks-seen (λ p. p.1)
    (shrinks-first (shrinks-seen (λ p. p.1) (shrinks-first (shrinks-one (λ c. c == 40)) exact-white.cuts))
    (exact-both (exact-left exact-value exact-dots) exact-value).cuts)) exact-range_end.cuts)

shrinks-symbol : Shrinks SymbolRule
shrinks-symbol =
    shrinks-else (shrinks-text (λ s rest a m. shrinks-first (shrinks-one (λ b. true)) exact-any.cuts s rest a m.match))
    (shrinks-text (shrinks-one is_single))

pub shrinks-token : Shrinks TokenRule
shrinks-token =
    shrinks-else (shrinks-seen range (λ s rest a m. shrinks-range s rest a.what m.match))
    (shrinks-else (shrinks-seen chain shrinks-chain) (shrinks-seen symbol (λ s rest a m. shrinks-symbol s rest a.what m.match)))

pub exact-next_token : Exact (right white read.token) (White ▷ TokenRule)
exact-next_token = exact-right exact-white exact-token

pub shrinks-next_token : Shrinks (White ▷ TokenRule)
shrinks-next_token = shrinks-seen (λ p. p.1) (shrinks-second exact-white.cuts shrinks-token)

pub exact-tokens : Exact (read.repeated (right white read.token)) (Repeated (White ▷ TokenRule))
exact-tokens = exact-repeated exact-next_token shrinks-next_token

pub exact-tag : Exact read.tag TagRule
unfolding read.tag
exact-tag = exact-left (exact-left (exact-both exact-tag_start (exact-at exact-tokens)) exact-white) (exact-closer 37)

pub shrinks-full_expression : Shrinks ExpressionRule
shrinks-full_expression =
    shrinks-seen (λ p. p.0) (shrinks-first (shrinks-seen (λ p. p.0)
    (shrinks-first (shrinks-seen (λ p. p.1) (shrinks-first
    (shrinks-seen (λ p. p.1) (shrinks-first (shrinks-opener 123) exact-white.cuts)) exact-chain.cuts)) exact-white.cuts))
    (exact-closer 125).cuts)

shrinks-tag_start : Shrinks TagStart
shrinks-tag_start = shrinks-seen (λ p. p.1)
    (shrinks-first (shrinks-seen (λ p. p.1) (shrinks-first (shrinks-opener 37) exact-white.cuts)) exact-identifier.cuts)

pub shrinks-tag : Shrinks TagRule
shrinks-tag =
    shrinks-seen (λ p. p.0) (shrinks-first (shrinks-seen (λ p. p.0)
    (shrinks-first (shrinks-first shrinks-tag_start (exact-at exact-tokens).cuts) exact-white.cuts)) (exact-closer 37).cuts)
