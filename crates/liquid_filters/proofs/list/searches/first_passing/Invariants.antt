use Rattle.std.proofs.Common.{◌≡◌, drop, map}
use Rattle.liquid_filters.specs.meaning.list.Searches.{passing}
use Rattle.liquid_filters.specs.meaning.list.Tests.{tested_view}
use Rattle.liquid_filters.proofs.list.searches.first_passing.Given as goal

abbrev pub invariant-loop-test : goal.invariant-loop-test
invariant-loop-test l = passing (map tested_view (drop l.test-index l.tested)) ≡ passing (map tested_view l.tested)
