use denote.Text.{Utf8}
use denote.Shadow.{shadow}
use Rattle.std.proofs.Common.{ℕ, ◌+◌, ◌-◌, ◌*◌, ◌<◌, ◌≤◌, List, length, map}
use Rattle.liquid_grammar.specs.meaning.Faults.{indexes_fault}
use Rattle.liquid_grammar.specs.meaning.Rules.{Begins, Repeated}
use Rattle.liquid_grammar.specs.meaning.Values.{Index, IndexRule, CloseBracket, gather}
use Rattle.liquid_plugins.specs.meaning.ExpressionOf.{expression_of}
use Rattle.liquid_parser.specs.meaning.Handed.{indexes_meant}
use Rattle.liquid_parser.proofs.Indexes.{Left}
use Rattle.liquid_parser.proofs.chain.build.+build.Given as goal

abbrev pub decreases-build_value : goal.decreases-build_value
decreases-build_value l = 4 * (100 - l.depth) + 3

abbrev pub decreases-build_from : goal.decreases-build_from
decreases-build_from l = 4 * (100 - l.depth) + 2

abbrev pub decreases-build_variable : goal.decreases-build_variable
decreases-build_variable l = 4 * (100 - l.depth) + 1

abbrev pub decreases-build_index : goal.decreases-build_index
decreases-build_index l = 4 * (100 - l.depth)

abbrev pub decreases-build_variable-indexes : goal.decreases-build_variable-indexes
decreases-build_variable-indexes l = length l.rest

-- what is left of the indexes is here
abbrev pub invariant-build_variable-indexes : goal.invariant-build_variable-indexes
invariant-build_variable-indexes l =
    shadow (Utf8 l.rest)
    × (length l.rest ≤ length l.s)
    × ((end : List ℕ) (is : List Index) → Repeated IndexRule l.s end is → (0 < l.depth → Begins CloseBracket end)
    → Left l.depth l.rest end (map expression_of l.indexes.items) (indexes_meant (gather is)) (indexes_fault l.depth (gather is)))
