use Rattle.std.proofs.Common.{◌≡◌}
use Rattle.liquid_plugins.specs.meaning.ArgumentsOf.{arguments_of}
use Rattle.liquid_parser.specs.meaning.Cursors.{bytes_left}
use Rattle.liquid_parser.specs.meaning.Handed.{Tokens}
use Rattle.liquid_parser.specs.meaning.Plugins.{AreTokens}
use Rattle.liquid_extend.specs.meaning.Arguments.{arguments_from}
use Rattle.liquid_extend.proofs.ArgumentLemmas.{read_on}
use Rattle.liquid_extend.proofs.arguments.read_from.Given as goal

abbrev pub invariant-arguments : goal.invariant-arguments
invariant-arguments l =
    (ts : Tokens) → AreTokens l.fn.tokens ts → (rest : Tokens) × AreTokens l.tokens rest
    × (arguments_from l.takes_values ts.left ≡ read_on l.takes_values (arguments_of l.arguments) rest.left)

abbrev pub decreases-arguments : goal.decreases-arguments
decreases-arguments l = bytes_left l.tokens
