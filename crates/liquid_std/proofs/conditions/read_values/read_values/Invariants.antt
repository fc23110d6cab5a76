use Rattle.std.proofs.Common.{◌≡◌, map}
use Rattle.liquid_parser.specs.meaning.Cursors.{bytes_left}
use Rattle.liquid_parser.specs.meaning.Handed.{Tokens}
use Rattle.liquid_parser.specs.meaning.Plugins.{AreTokens}
use Rattle.liquid_std.specs.meaning.conditions.Values.{expressions_of, values_given}
use Rattle.liquid_std.proofs.ValueLemmas.{read_on}
use Rattle.liquid_std.proofs.conditions.read_values.read_values.Given as goal

abbrev pub invariant-values : goal.invariant-values
invariant-values l =
    (ts : Tokens) → AreTokens l.fn.tokens ts
    → (rest : Tokens) × AreTokens l.tokens rest
    × (values_given (map (λ s. s.now) l.separators) ts ≡ read_on (map (λ s. s.now) l.separators) (expressions_of l.values) rest.left)

abbrev pub decreases-values : goal.decreases-values
decreases-values l = bytes_left l.tokens
