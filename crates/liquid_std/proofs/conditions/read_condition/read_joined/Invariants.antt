use Rattle.std.proofs.Common.{◌≡◌, map}
use Rattle.liquid_parser.specs.meaning.Cursors.{bytes_left}
use Rattle.liquid_parser.specs.meaning.Handed.{Tokens}
use Rattle.liquid_parser.specs.meaning.Plugins.{AreTokens}
use Rattle.liquid_std.specs.meaning.conditions.Conditions.{joined_of, test_of}
use Rattle.liquid_std.specs.meaning.conditions.ConditionsGiven.{after_test}
use Rattle.liquid_std.proofs.ReadLemmas.{read_on}
use Rattle.liquid_std.proofs.conditions.read_condition.read_joined.Given as goal

abbrev pub invariant-tests : goal.invariant-tests
invariant-tests l =
    (ts : Tokens) → AreTokens l.fn.tokens ts
    → (rest : Tokens) × AreTokens l.tokens rest × (after_test (test_of l.fn.first) ts.left ≡ read_on (map joined_of l.joined.items)
    (test_of l.last) rest.left)

abbrev pub decreases-tests : goal.decreases-tests
decreases-tests l = bytes_left l.tokens
