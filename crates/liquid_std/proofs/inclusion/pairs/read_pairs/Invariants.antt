use Rattle.std.proofs.Common.{◌≡◌}
use Rattle.liquid_parser.specs.meaning.Cursors.{bytes_left}
use Rattle.liquid_parser.specs.meaning.Handed.{Tokens}
use Rattle.liquid_parser.specs.meaning.Plugins.{AreTokens}
use Rattle.liquid_std.specs.meaning.inclusion.CallsGiven.{pairs_from, pairs_of}
use Rattle.liquid_std.proofs.PairLemmas.{read_on}
use Rattle.liquid_std.proofs.inclusion.pairs.read_pairs.Given as goal

abbrev pub invariant-pairs : goal.invariant-pairs
invariant-pairs l =
    (ts : Tokens) → AreTokens l.fn.tokens ts → (rest : Tokens) × AreTokens l.tokens rest
    × (pairs_from ts.left ≡ read_on (pairs_of l.pairs) rest.left)

abbrev pub decreases-pairs : goal.decreases-pairs
decreases-pairs l = bytes_left l.tokens
