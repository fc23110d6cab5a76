-- What may be missing in an element, from its braces on.
use Rattle.std.specs.Prelude.{ℕ, List}
use Rattle.liquid_grammar.specs.meaning.Rules.{Rule, Byte, Optional, ◌▷◌}
use Rattle.liquid_grammar.specs.meaning.Grammar.{White, Braces, Identifier}
use Rattle.liquid_grammar.specs.meaning.Tokens.{ChainRule}
use Rattle.liquid_grammar.specs.meaning.Bytes.{close_brace, dash, open_brace, percent}
use Rattle.liquid_explain.specs.declared.part.Part.TheVariants.{TagName}
use Rattle.liquid_explain.specs.meaning.Misses.{Misses, Wants, After, Either}
use Rattle.liquid_explain.specs.meaning.Filters.{ChainMisses}
use Rattle.liquid_explain.specs.meaning.Tokens.{TokensMisses, CloserMisses}

-- the braces, a dash or none, and the whitespace after them
abbrev pub Opened : ℕ → Rule (List ℕ)
Opened kind = Braces kind ▷ Optional (Byte dash) ▷ White

-- in the chain of an expression, or its end
abbrev pub ClosedChainMisses : Misses
ClosedChainMisses = Either ChainMisses (After ChainRule (CloserMisses close_brace))

-- in an expression
abbrev pub ExpressionMisses : Misses
ExpressionMisses = After (Opened open_brace) ClosedChainMisses

-- in a tag from its name on
abbrev pub NamedMisses : Misses
NamedMisses = Either (Wants Identifier TagName) (After Identifier TokensMisses)

-- in a tag
abbrev pub TagMisses : Misses
TagMisses = After (Opened percent) NamedMisses

-- in the element that begins with these braces
abbrev pub ElementMisses : Misses
ElementMisses = Either ExpressionMisses TagMisses
