-- Literals: words, texts and numbers.
use Rattle.std.specs.Prelude.{ℕ, Bool, not, ◌||◌, ◌==◌, List, codes, bytes_eq, if◌then◌else◌}
use Rattle.std.specs.Char.{is_ascii_digit}
use Rattle.liquid_grammar.specs.meaning.Bytes.{starts_name}
use Rattle.liquid_grammar.specs.meaning.Rules.{Rule, One, Then, Else, Repeated, Seen, Where, Text, Not, Byte, Optional, ◌▷◌, ◌◁◌}
use Rattle.liquid_grammar.specs.meaning.Grammar.{Identifier, is_literal_word}
use Rattle.liquid_grammar.specs.meaning.Bytes.{dash, dot, double_quote, plus, single_quote}

-- a literal: a number by its text, with its sign
pub data Literal : Type 0 where
  nil : Literal
  empty : Literal
  blank : Literal
  truth : Bool → Literal
  text_literal : List ℕ → Literal
  integer : List ℕ → Literal
  decimal : List ℕ → Literal

-- the literal that a literal word means
abbrev pub word_literal : List ℕ → Literal
word_literal word =
    if bytes_eq word (codes "nil") || bytes_eq word (codes "null") then nil
    else if bytes_eq word (codes "empty") then empty
    else if bytes_eq word (codes "blank") then blank
    else truth (bytes_eq word (codes "true"))

-- a word that means a literal, as a whole identifier
abbrev pub Word : Rule Literal
Word = Seen word_literal (Where is_literal_word Identifier)

-- the text between two quotes of one kind
abbrev pub Quoted : ℕ → Rule (List ℕ)
Quoted quote = Byte quote ▷ Repeated (One (λ b. not (b == quote))) ◁ Byte quote

-- a digit and all digits after it
abbrev pub Digits : Rule (List ℕ)
Digits = Text (Then (One is_ascii_digit) (Repeated (One is_ascii_digit)))

-- a sign or none, and digits
abbrev pub Whole : Rule (List ℕ)
Whole = Text (Then (Optional (One (λ b. b == plus || b == dash))) Digits)

-- an integer, `.` and digits
abbrev pub Fractional : Rule (List ℕ)
Fractional = Text (Then Whole (Then (Byte dot) Digits))

-- the longer of the two, with no letter and no `_` after it
abbrev pub Number : Rule Literal
Number = Else (Seen decimal Fractional) (Seen integer Whole) ◁ Not (One starts_name)

abbrev pub LiteralRule : Rule Literal
LiteralRule = Else Word (Else (Seen text_literal (Else (Quoted single_quote) (Quoted double_quote))) Number)
