use Rattle.std.proofs.Common.{◌≡◌, map}
use Rattle.liquid_parser.specs.meaning.Cursors.{bytes_left}
use Rattle.liquid_parser.specs.meaning.Handed.{Tokens}
use Rattle.liquid_parser.specs.meaning.Plugins.{AreTokens}
use Rattle.liquid_tags.specs.meaning.CallsGiven.{pairs_given}
use Rattle.liquid_tags.specs.meaning.Partials.{pair_of}
use Rattle.liquid_tags.proofs.PairLemmas.{read_on}
use Rattle.liquid_tags.proofs.partial_call.read_call.read_pairs.Given as goal

abbrev pub invariant-pairs : goal.invariant-pairs
invariant-pairs l =
    (ts : Tokens) → AreTokens l.fn.tokens ts → (rest : Tokens) × AreTokens l.tokens rest
    × (pairs_given ts.left ≡ read_on (map pair_of l.pairs.items) rest.left)

abbrev pub decreases-pairs : goal.decreases-pairs
decreases-pairs l = bytes_left l.tokens
