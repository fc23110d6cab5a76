-- What may be missing in the tokens of a tag.
use Rattle.std.specs.Prelude.{ℕ}
use Rattle.liquid_grammar.specs.meaning.Rules.{Byte, Repeated, ◌▷◌}
use Rattle.liquid_grammar.specs.meaning.Grammar.{White, Closer}
use Rattle.liquid_grammar.specs.meaning.Values.{ValueRule}
use Rattle.liquid_grammar.specs.meaning.Tokens.{RangeStart, TokenRule}
use Rattle.liquid_grammar.specs.meaning.Bytes.{close_paren, dot, percent}
use Rattle.liquid_explain.specs.declared.part.Part.TheVariants as part
use Rattle.liquid_explain.specs.meaning.Misses.{Misses, Wants, After, Either, Along}
use Rattle.liquid_explain.specs.meaning.Values.{ValueMisses}
use Rattle.liquid_explain.specs.meaning.Filters.{ChainMisses}

-- in a range from its second value on
abbrev pub EndMisses : Misses
EndMisses = Either ValueMisses (After ValueRule (After White (Wants (Byte close_paren) part.CloseParen)))

-- in a range after its first value
abbrev pub DotsMisses : Misses
DotsMisses = After White (Either (Wants (Byte dot ▷ Byte dot) part.Dots) (After (Byte dot ▷ Byte dot) (After White EndMisses)))

-- in a range from its first value on
abbrev pub StartMisses : Misses
StartMisses = Either ValueMisses (After ValueRule DotsMisses)

-- in a range
abbrev pub RangeMisses : Misses
RangeMisses = After RangeStart StartMisses

-- a token
abbrev pub NoToken : Misses
NoToken = Wants TokenRule part.Token

-- a token, or something in it
abbrev pub NextTokenMisses : Misses
NextTokenMisses = After White (Either NoToken (Either RangeMisses ChainMisses))

-- the end of an element
abbrev pub CloserMisses : ℕ → Misses
CloserMisses kind = After White (Wants (Closer kind) part.Closer)

-- in the tokens of a tag, or its end after them
abbrev pub TokensMisses : Misses
TokensMisses = Either (Along (White ▷ TokenRule) NextTokenMisses) (After (Repeated (White ▷ TokenRule)) (CloserMisses percent))
