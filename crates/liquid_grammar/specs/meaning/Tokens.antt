-- Arguments, filters, chains, tokens, expressions and tags.
use Rattle.std.specs.Prelude.{ℕ, Bool, true, ◌||◌, ◌&&◌, ◌==◌, List, [], ◌∷◌, Option, Some, None}
use Rattle.std.specs.Str.{byte}
use Rattle.liquid_grammar.specs.meaning.Rules.{Rule, Placed, One, Then, Else, Repeated, Seen, Where, Text, At, Byte, Optional, ◌▷◌, ◌◁◌}
use Rattle.liquid_grammar.specs.meaning.Grammar.{White, Opener, Closer, Identifier}
use Rattle.liquid_grammar.specs.meaning.Values.{Value, ValueRule}
use Rattle.liquid_grammar.specs.meaning.Bytes.{bar, close_brace, close_paren, colon, comma, dot, open_brace, open_paren, percent}

-- an argument of a filter
pub data Argument : Type 0 where
  positional : Value → Argument
  keyword : (name : List ℕ) → Value → Argument

-- a filter's name and its arguments
abbrev pub Filter : Type 0
Filter = Placed (List ℕ × List Argument)

-- a value, and the filters that it goes through
abbrev pub Chain : Type 0
Chain = Placed (Value × List Filter)

-- a token of a tag
pub data Token : Type 0 where
  range : Placed (Value × Value) → Token
  chain : Chain → Token
  symbol : Placed (List ℕ) → Token

-- the name of a tag, and its tokens with the places before and after them
abbrev pub Tag : Type 0
Tag = List ℕ × Placed (List Token)

-- an identifier and `:`, with the whitespace after them
abbrev pub KeywordStart : Rule (List ℕ)
KeywordStart = Identifier ◁ White ◁ Byte colon ◁ White

-- an identifier, `:` and a value
abbrev pub KeywordRule : Rule Argument
KeywordRule = Seen (λ p. keyword p.0 p.1) (Then KeywordStart ValueRule)

-- an identifier, `:` and a value; otherwise a value
abbrev pub ArgumentRule : Rule Argument
ArgumentRule = Else KeywordRule (Seen positional ValueRule)

-- the separator between whitespace, and R after it
abbrev pub Following : {A : Type 0} → ℕ → Rule A → Rule A
Following separator R = White ▷ Byte separator ▷ White ▷ R

-- `:` with an argument, and further ones after commas
abbrev pub Arguments : Rule (List Argument)
Arguments = Seen (λ p. p.0 ∷ p.1) (Then (Following colon ArgumentRule) (Repeated (Following comma ArgumentRule)))

-- the arguments that were found, or none
abbrev pub arguments_of : Option (List Argument) → List Argument
arguments_of (Some arguments) = arguments
arguments_of None = []

-- an identifier, and arguments if they begin here
abbrev pub FilterRule : Rule Filter
FilterRule = At (Seen (λ p. (p.0, arguments_of p.1)) (Then Identifier (Optional Arguments)))

-- a value, and all filters after `|`
abbrev pub ChainRule : Rule Chain
ChainRule = At (Then ValueRule (Repeated (Following bar FilterRule)))

-- `..` between whitespace
abbrev pub Dots : Rule ℕ
Dots = White ▷ Byte dot ▷ Byte dot ◁ White

-- `(` and the whitespace after it
abbrev pub RangeStart : Rule (List ℕ)
RangeStart = Byte open_paren ▷ White

-- `)` and the whitespace before it
abbrev pub RangeEnd : Rule ℕ
RangeEnd = White ▷ Byte close_paren

-- two values with `..` between them, in parentheses
abbrev pub RangeRule : Rule (Value × Value)
RangeRule = RangeStart ▷ Then (ValueRule ◁ Dots) ValueRule ◁ RangeEnd

-- `<=`, `>=`, `==`, `!=` or `<>`
abbrev pub is_double : ℕ × ℕ → Bool
is_double p = ((p.1 == byte "=") && (((p.0 == byte "<" || p.0 == byte ">") || p.0 == byte "=") || p.0 == byte "!")) ||
    (p.0 == byte "<" && p.1 == byte ">")

-- `<`, `>`, `=`, `,` or `:`
abbrev pub is_single : ℕ → Bool
is_single b = (((b == byte "<" || b == byte ">") || b == byte "=") || b == comma) || b == colon

-- the longest symbol
abbrev pub SymbolRule : Rule (List ℕ)
SymbolRule = Else (Text (Where is_double (Then (One (λ b. true)) (One (λ b. true))))) (Text (One is_single))

-- a range, otherwise a chain, otherwise a symbol
abbrev pub TokenRule : Rule Token
TokenRule = Else (Seen range (At RangeRule)) (Else (Seen chain ChainRule) (Seen symbol (At SymbolRule)))

-- the opening before the chain of an expression
abbrev pub ExpressionStart : Rule (List ℕ)
ExpressionStart = Opener open_brace ▷ White

-- a chain between `{{` and `}}`
abbrev pub ExpressionRule : Rule Chain
ExpressionRule = ExpressionStart ▷ ChainRule ◁ White ◁ Closer close_brace

-- an opener and the name of a tag
abbrev pub TagStart : Rule (List ℕ)
TagStart = Opener percent ▷ White ▷ Identifier

-- a name and tokens between `{%` and `%}`
abbrev pub TagRule : Rule Tag
TagRule = Then TagStart (At (Repeated (White ▷ TokenRule))) ◁ White ◁ Closer percent
