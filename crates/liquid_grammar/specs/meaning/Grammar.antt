-- The grammar of templates, one definition for each rule. A part that is repeated is taken as long as it matches.
use Rattle.std.specs.Prelude.{ℕ, Bool, not, ◌||◌, List, codes, bytes_eq}
use Rattle.liquid_grammar.specs.meaning.Bytes.{is_white, starts_name, is_word}
use Rattle.liquid_grammar.specs.meaning.Rules.{Rule, Begins, One, Then, Else, Repeated, Where, Text, Ahead, Byte, ◌▷◌, ◌◁◌}
use Rattle.liquid_grammar.specs.meaning.Bytes.{close_brace, dash, open_brace, percent}

-- any run of whitespace, even an empty one
abbrev pub White : Rule (List ℕ)
White = Repeated (One is_white)

-- `{{` or `{%`, by its second byte
abbrev pub Braces : ℕ → Rule ℕ
Braces kind = Byte open_brace ▷ Byte kind

-- an opener with its dash and the whitespace before it; otherwise the braces alone
abbrev pub Opener : ℕ → Rule ℕ
Opener kind = Else (White ▷ Braces kind ▷ Byte dash) (Braces kind)

-- a closer with its dash and the whitespace after it; otherwise `}}` or `%}` alone
abbrev pub Closer : ℕ → Rule ℕ
Closer kind = Else (Byte dash ▷ Byte kind ▷ Byte close_brace ◁ White) (Byte kind ▷ Byte close_brace)

-- `{{` or `{%`, with dash and whitespace
abbrev pub AnyOpener : Rule ℕ
AnyOpener = Else (Opener open_brace) (Opener percent)

-- an opener begins here
abbrev pub Opens : List ℕ → Type 0
Opens s = Begins AnyOpener s

-- a byte inside an identifier: a dash only if a letter, a digit or `_` follows it
abbrev pub NameByte : Rule ℕ
NameByte = Else (One is_word) (Byte dash ◁ Ahead (One is_word))

-- a letter or `_`, and all name bytes after it
abbrev pub Identifier : Rule (List ℕ)
Identifier = Text (Then (One starts_name) (Repeated NameByte))

-- a word that means a literal
abbrev pub is_literal_word : List ℕ → Bool
is_literal_word word =
    ((((bytes_eq word (codes "nil") || bytes_eq word (codes "null")) || bytes_eq word (codes "empty")) || bytes_eq word (codes "blank"))
    || bytes_eq word (codes "true"))
    || bytes_eq word (codes "false")

-- an identifier that is not a literal
abbrev pub Name : Rule (List ℕ)
Name = Where (λ word. not (is_literal_word word)) Identifier

-- whitespace and one `{`
abbrev pub LoneBrace : Rule (List ℕ)
LoneBrace = Text (Then White (Byte open_brace))
