use Rattle.std.proofs.Common.{◌≡◌, ◌++◌, drop, map}
use Rattle.liquid_value.specs.meaning.View.{view as tree_of}
use Rattle.liquid_filters.specs.meaning.list.Entries.{entry_view}
use Rattle.liquid_filters.specs.meaning.list.Searches.{tested_items}
use Rattle.liquid_filters.specs.meaning.list.Tests.{tested_view}
use Rattle.liquid_filters.proofs.list.searches.test_entries.Given as goal

abbrev pub invariant-loop-entry : goal.invariant-loop-entry
invariant-loop-entry l =
    map tested_view l.tested.items ++ tested_items (tree_of l.wanted) (map entry_view (drop l.entry-index l.entries)) ≡ tested_items
    (tree_of l.wanted) (map entry_view l.entries)
