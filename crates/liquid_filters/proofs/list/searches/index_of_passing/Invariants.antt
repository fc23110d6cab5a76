use Rattle.std.proofs.Common.{◌≡◌, ℕ, drop, map, pos}
use Rattle.liquid_filters.specs.meaning.list.Searches.{index_from}
use Rattle.liquid_filters.specs.meaning.list.Tests.{tested_view}
use Rattle.liquid_filters.proofs.list.searches.index_of_passing.Given as goal

abbrev pub invariant-loop-test : goal.invariant-loop-test
invariant-loop-test l = record {
  index : l.index ≡ pos l.test-index;
  rest : index_from l.test-index (map tested_view (drop l.test-index l.tested)) ≡ index_from 0 (map tested_view l.tested);
}
