-- Values: literals, and variables with their indexes.
use Rattle.std.specs.Prelude.{ℕ, suc, zero, List, [], ◌∷◌, length}
use Rattle.liquid_grammar.specs.meaning.Rules.{Rule, Placed, Then, Else, Repeated, Seen, At, Byte, ◌▷◌, ◌◁◌}
use Rattle.liquid_grammar.specs.meaning.Grammar.{White, Identifier, Name}
use Rattle.liquid_grammar.specs.meaning.Literals.{Literal, LiteralRule}
use Rattle.liquid_grammar.specs.meaning.Bytes.{close_square, dot, open_square}

-- a value with the places where its parts begin and end
mutual
  pub data Value : Type 0 where
    literal_value : (place following : List ℕ) → Literal → Value
    variable_value : (place following name : List ℕ) → Indexes → Value

  pub data Index : Type 0 where
    named_index : List ℕ → Index
    bracketed_index : (place following : List ℕ) → Value → Index

  pub data Indexes : Type 0 where
    no_index : Indexes
    more_indexes : Index → Indexes → Indexes

abbrev pub gather : List Index → Indexes
gather [] = no_index
gather (i ∷ is) = more_indexes i (gather is)

abbrev pub placed_literal : Placed Literal → Value
placed_literal p = literal_value p.place p.following p.what

abbrev pub placed_variable : Placed (List ℕ × List Index) → Value
placed_variable p = variable_value p.place p.following p.what.0 (gather p.what.1)

abbrev pub placed_bracket : Placed Value → Index
placed_bracket p = bracketed_index p.place p.following p.what

-- `[` and the whitespace after it
abbrev pub OpenBracket : Rule (List ℕ)
OpenBracket = Byte open_square ▷ White

-- `]` and the whitespace before it
abbrev pub CloseBracket : Rule ℕ
CloseBracket = White ▷ Byte close_square

-- the rules of a value, over the rule of the values in its brackets
module _ (Inner : Rule Value) where
  -- a value in brackets
  abbrev pub Bracketed : Rule Value
  Bracketed = OpenBracket ▷ Inner ◁ CloseBracket

  -- `.` and an identifier, or brackets
  abbrev pub IndexOver : Rule Index
  IndexOver = Else (Seen named_index (Byte dot ▷ Identifier)) (Seen placed_bracket (At Bracketed))

  -- a name and all its indexes
  abbrev pub VariableOver : Rule Value
  VariableOver = Seen placed_variable (At (Then Name (Repeated IndexOver)))

  -- a literal, otherwise a variable
  abbrev pub ValueOver : Rule Value
  ValueOver = Else (Seen placed_literal (At LiteralRule)) VariableOver

-- a value with fewer than this many nested brackets
unfoldable pub Nested : ℕ → Rule Value
Nested zero s rest v = ⊥
Nested (suc n) s rest v = ValueOver (Nested n) s rest v

-- a value: no text has more brackets than bytes
abbrev pub ValueRule : Rule Value
ValueRule s rest v = Nested (suc (length s)) s rest v

abbrev pub IndexRule : Rule Index
IndexRule = IndexOver ValueRule

abbrev pub VariableRule : Rule Value
VariableRule = VariableOver ValueRule
