-- What may be missing in filters and chains.
use Rattle.liquid_grammar.specs.meaning.Rules.{Byte, ◌▷◌}
use Rattle.std.specs.Prelude.{ℕ}
use Rattle.liquid_grammar.specs.meaning.Grammar.{White, Identifier}
use Rattle.liquid_grammar.specs.meaning.Values.{ValueRule}
use Rattle.liquid_grammar.specs.meaning.Tokens.{ArgumentRule, Following, FilterRule}
use Rattle.liquid_grammar.specs.meaning.Bytes.{bar, colon, comma}
use Rattle.liquid_explain.specs.declared.part.Part.{Part}
use Rattle.liquid_explain.specs.declared.part.Part.TheVariants.{FilterName, Colon, Comma, Bar}
use Rattle.liquid_explain.specs.meaning.Misses.{Misses, Wants, After, Either, Along}
use Rattle.liquid_explain.specs.meaning.Values.{ValueMisses}

-- the separator between whitespace, or something after it
abbrev pub Separated : ℕ → Part → Misses → Misses
Separated separator part M = After White (Either (Wants (Byte separator) part) (After (Byte separator) (After White M)))

-- in the value after the name of a keyword
abbrev pub KeywordMisses : Misses
KeywordMisses = After (White ▷ Byte colon ▷ White) ValueMisses

-- in an argument
abbrev pub ArgumentMisses : Misses
ArgumentMisses = Either ValueMisses (After Identifier KeywordMisses)

-- `,` or something in the argument after it
abbrev pub NextArgumentMisses : Misses
NextArgumentMisses = Separated comma Comma ArgumentMisses

-- in further arguments
abbrev pub MoreMisses : Misses
MoreMisses = Along (Following comma ArgumentRule) NextArgumentMisses

-- in the arguments after `:`
abbrev pub ListMisses : Misses
ListMisses = Either ArgumentMisses (After ArgumentRule MoreMisses)

-- `:` or something in the arguments after it
abbrev pub ArgumentsMisses : Misses
ArgumentsMisses = Separated colon Colon ListMisses

-- in a filter
abbrev pub FilterMisses : Misses
FilterMisses = Either (Wants Identifier FilterName) (After Identifier ArgumentsMisses)

-- `|` or something in the filter after it
abbrev pub NextFilterMisses : Misses
NextFilterMisses = Separated bar Bar FilterMisses

-- in the filters of a chain
abbrev pub FiltersMisses : Misses
FiltersMisses = Along (Following bar FilterRule) NextFilterMisses

-- in a chain
abbrev pub ChainMisses : Misses
ChainMisses = Either ValueMisses (After ValueRule FiltersMisses)
