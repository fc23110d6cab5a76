use Rattle.std.proofs.Common.{◌≡◌, ◌++◌, drop, map}
use Rattle.liquid_value.specs.meaning.View.{view as tree_of}
use Rattle.liquid_filters.specs.meaning.list.Searches.{failing}
use Rattle.liquid_filters.specs.meaning.list.Tests.{tested_view}
use Rattle.liquid_filters.proofs.list.searches.all_failing.Given as goal

abbrev pub invariant-loop-test : goal.invariant-loop-test
invariant-loop-test l =
    map tree_of l.kept.items ++ failing (map tested_view (drop l.test-index l.tested)) ≡ failing (map tested_view l.tested)
