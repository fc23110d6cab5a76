-- What may be missing in a value.
use Rattle.std.specs.Prelude.{◌≡◌, ℕ, zero, suc, List}
use Rattle.liquid_grammar.specs.meaning.Rules.{Rule, Begins, Else, Byte}
use Rattle.liquid_grammar.specs.meaning.Grammar.{White, Identifier}
use Rattle.liquid_grammar.specs.meaning.Values.{OpenBracket, ValueRule, VariableRule}
use Rattle.liquid_grammar.specs.meaning.Faults.{bracket_limit}
use Rattle.liquid_grammar.specs.meaning.Bytes.{close_square, dot, double_quote, single_quote}
use Rattle.liquid_explain.specs.declared.part.Part.{Part}
use Rattle.liquid_explain.specs.declared.part.Part.TheVariants.{Member, Value, EndQuote, CloseBracket}
use Rattle.liquid_explain.specs.meaning.Misses.{Misses, Wants, After, Either}

abbrev pub Quote : Rule ℕ
Quote = Else (Byte double_quote) (Byte single_quote)

-- no value begins here: at a quote its end is missing
pub data NoValue (s place : List ℕ) (part : Part) : Type 0 where
  plain : place ≡ s → part ≡ Value → ¬ (Begins ValueRule s) → ¬ (Begins Quote s) → NoValue s place part
  quoted : place ≡ s → part ≡ EndQuote → ¬ (Begins ValueRule s) → Begins Quote s → NoValue s place part

-- the name of a member, after `.`
abbrev pub MemberMisses : Misses
MemberMisses = After (Byte dot) (Wants Identifier Member)

-- the close bracket, after the value in brackets
abbrev pub BracketMisses : Misses
BracketMisses = After ValueRule (After White (Wants (Byte close_square) CloseBracket))

-- over what may be missing in the values in its brackets
module _ (Inner : Misses) where
  -- in an index
  abbrev pub IndexMisses : Misses
  IndexMisses = Either MemberMisses (After OpenBracket (Either Inner BracketMisses))

  -- a value, or something in the first index that is not matched
  abbrev pub ValueOver : Misses
  ValueOver = Either NoValue (After VariableRule IndexMisses)

-- in a value inside fewer than this many brackets
unfoldable pub NestedMisses : ℕ → Misses
NestedMisses zero s place part = ⊥
NestedMisses (suc n) s place part = ValueOver (NestedMisses n) s place part

-- in a value: no more brackets may be open than the grammar allows
abbrev pub ValueMisses : Misses
ValueMisses = NestedMisses (suc bracket_limit)
