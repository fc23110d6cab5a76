use Rattle.std.proofs.Common.{◌≡◌, drop, map}
use Rattle.std.specs.List.{list_any}
use Rattle.liquid_filters.specs.meaning.list.Tests.{tested_view}
use Rattle.liquid_filters.proofs.list.searches.any_passes.Given as goal

abbrev pub invariant-loop-test : goal.invariant-loop-test
invariant-loop-test l = list_any (λ t. t.0) (map tested_view (drop l.test-index l.tested)) ≡ list_any (λ t. t.0) (map tested_view l.tested)
