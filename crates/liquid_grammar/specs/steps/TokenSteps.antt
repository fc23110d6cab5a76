-- Readers of literals, values, filters, chains, tokens and tags. Like those of Steps, no public clause cites them.
use Rattle.std.specs.Prelude.{
  ℕ,
  zero,
  suc,
  ◌==◌,
  ◌||◌,
  Bool,
  true,
  cond,
  not,
  List,
  [],
  ◌∷◌,
  length,
  Option,
  Some,
  None,
  option_map,
  is_some,
  drop,
  slice_index,
}
use Rattle.std.specs.List.{prefix_len}
use Rattle.std.specs.Char.{is_ascii_digit}
use Rattle.liquid_grammar.specs.meaning.Bytes.{is_white, starts_name}
use Rattle.liquid_grammar.specs.meaning.Rules.{Placed}
use Rattle.liquid_grammar.specs.meaning.Grammar.{is_literal_word}
use Rattle.liquid_grammar.specs.meaning.Literals.{Literal, word_literal, text_literal, integer, decimal}
use Rattle.liquid_grammar.specs.meaning.Values.{Value, Index, named_index, placed_literal, placed_variable, placed_bracket}
use Rattle.liquid_grammar.specs.meaning.Tokens.{
  Argument,
  positional,
  keyword,
  Filter,
  Chain,
  Tag,
  Token,
  range,
  chain,
  symbol,
  arguments_of,
  is_double,
  is_single,
}
use Rattle.liquid_grammar.specs.steps.Steps.{
  Reader,
  one,
  byte,
  both,
  either,
  seen,
  only,
  text,
  right,
  left,
  run,
  white,
  opener,
  closer,
  identifier,
  name,
}
use Rattle.liquid_grammar.specs.meaning.Bytes.{
  bar,
  close_brace,
  close_paren,
  close_square,
  colon,
  comma,
  dash,
  dot,
  double_quote,
  open_brace,
  open_paren,
  open_square,
  percent,
  plus,
  single_quote,
}

abbrev pub not_ahead : {A : Type 0} → Reader A → Reader (Unit {0})
not_ahead f s = cond (is_some (f s)) None (Some (tt, s))

abbrev pub nothing : {A : Type 0} → A → Reader A
nothing a s = Some (a, s)

abbrev pub optional : {A : Type 0} → Reader A → Reader (Option A)
optional f = either (seen Some f) (nothing None)

abbrev pub placed : {A : Type 0} → List ℕ → A × List ℕ → Placed A × List ℕ
placed s a = (record { place = s; following = a.1; what = a.0 }, a.1)

abbrev pub at : {A : Type 0} → Reader A → Reader (Placed A)
at f s = option_map (placed s) (f s)

-- one turn of a repetition: what was found first, and what the other turns find
abbrev pub repeat_turn : {A : Type 0} → Option (A × List ℕ) → List ℕ → Reader (List A) → Option (List A × List ℕ)
repeat_turn None s more_of = Some ([], s)
repeat_turn (Some a) s more_of = option_map (λ b. (a.0 ∷ b.0, b.1)) (more_of a.1)

unfoldable pub repeated_by : {A : Type 0} → ℕ → Reader A → Reader (List A)
repeated_by zero f s = Some ([], s)
repeated_by (suc n) f s = repeat_turn (f s) s (repeated_by n f)

unfoldable pub repeated : {A : Type 0} → Reader A → Reader (List A)
repeated f s = repeated_by (suc (length s)) f s

unfoldable pub word : Reader Literal
word = seen word_literal (only is_literal_word identifier)

unfoldable pub quoted : ℕ → Reader (List ℕ)
quoted quote = left (right (byte quote) (run (λ b. not (b == quote)))) (byte quote)

abbrev pub text_of_quotes : Reader (List ℕ)
text_of_quotes = either (quoted single_quote) (quoted double_quote)

unfoldable pub digits : Reader (List ℕ)
digits = text (both (one is_ascii_digit) (run is_ascii_digit))

unfoldable pub sign : Reader (Option ℕ)
sign = optional (one (λ b. b == plus || b == dash))

unfoldable pub whole : Reader (List ℕ)
whole = text (both sign digits)

abbrev pub fraction : Reader (ℕ × List ℕ)
fraction = both (byte dot) digits

unfoldable pub fractional : Reader (List ℕ)
fractional = text (both whole fraction)

abbrev pub longest_number : Reader Literal
longest_number = either (seen decimal fractional) (seen integer whole)

unfoldable pub number : Reader Literal
number = left longest_number (not_ahead (one starts_name))

abbrev pub text_or_number : Reader Literal
text_or_number = either (seen text_literal text_of_quotes) number

-- a byte that a literal or a name may begin with
abbrev pub begins_value : ℕ → Bool
begins_value b = ((((starts_name b || is_ascii_digit b) || b == double_quote) || b == single_quote) || b == dash) || b == plus

unfoldable pub literal : Reader Literal
literal = either word text_or_number

-- the readers of a value, over that of the values in its brackets
unfoldable pub open_bracket : Reader (List ℕ)
open_bracket = right (byte open_square) white

unfoldable pub close_bracket : Reader ℕ
close_bracket = right white (byte close_square)

abbrev pub bracketed_over : Reader Value → Reader Value
bracketed_over inner = left (right open_bracket inner) close_bracket

unfoldable pub named : Reader (List ℕ)
named = right (byte dot) identifier

-- a byte that an index begins with
abbrev pub begins_index : ℕ → Bool
begins_index b = b == dot || b == open_square

abbrev pub index_over : Reader Value → Reader Index
index_over inner = either (seen named_index named) (seen placed_bracket (at (bracketed_over inner)))

abbrev pub variable_over : Reader Value → Reader Value
variable_over inner = seen placed_variable (at (both name (repeated (index_over inner))))

abbrev pub value_over : Reader Value → Reader Value
value_over inner = either (seen placed_literal (at literal)) (variable_over inner)

unfoldable pub value_by : ℕ → Reader Value
value_by zero s = None
value_by (suc n) s = value_over (value_by n) s

unfoldable pub value : Reader Value
value s = value_by (suc (length s)) s

unfoldable pub keyword_start : Reader (List ℕ)
keyword_start = left (left (left identifier white) (byte colon)) white

abbrev pub keyword_argument : Reader Argument
keyword_argument = seen (λ p. keyword p.0 p.1) (both keyword_start value)

unfoldable pub argument : Reader Argument
argument = either keyword_argument (seen positional value)

abbrev pub separated : ℕ → Reader (List ℕ)
separated separator = right (right white (byte separator)) white

-- a separator between whitespace, and what is after it
abbrev pub following : {A : Type 0} → ℕ → Reader A → Reader A
following separator f = right (separated separator) f

unfoldable pub arguments : Reader (List Argument)
arguments = seen (λ p. p.0 ∷ p.1) (both (following colon argument) (repeated (following comma argument)))

unfoldable pub filter : Reader Filter
filter = at (seen (λ p. (p.0, arguments_of p.1)) (both identifier (optional arguments)))

-- `|` is here, after whitespace
abbrev pub begins_filter : List ℕ → Bool
begins_filter s = slice_index (drop (prefix_len is_white s) s) 0 == bar

unfoldable pub chain_of : Reader Chain
chain_of = at (both value (repeated (following bar filter)))

unfoldable pub dots : Reader ℕ
dots = left (right (right white (byte dot)) (byte dot)) white

unfoldable pub range_start : Reader (List ℕ)
range_start = right (byte open_paren) white

unfoldable pub range_end : Reader ℕ
range_end = right white (byte close_paren)

unfoldable pub ranged : Reader (Value × Value)
ranged = left (right range_start (both (left value dots) value)) range_end

abbrev pub any : Reader ℕ
any = one (λ b. true)

unfoldable pub symbol_of : Reader (List ℕ)
symbol_of = either (text (only is_double (both any any))) (text (one is_single))

unfoldable pub token : Reader Token
token = either (seen range (at ranged)) (either (seen chain chain_of) (seen symbol (at symbol_of)))

unfoldable pub expression_start : Reader (List ℕ)
expression_start = right (opener open_brace) white

unfoldable pub full_expression : Reader Chain
full_expression = left (left (right expression_start chain_of) white) (closer close_brace)

unfoldable pub tag_start : Reader (List ℕ)
tag_start = right (right (opener percent) white) identifier

unfoldable pub tag : Reader Tag
tag = left (left (both tag_start (at (repeated (right white token)))) white) (closer percent)
