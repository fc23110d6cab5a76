use Rattle.std.proofs.Common.{◌≡◌, ◌++◌, drop, map}
use Rattle.liquid_value.specs.meaning.View.{view as tree_of}
use Rattle.liquid_filters.specs.meaning.sort.Numbered.{numbered_view}
use Rattle.liquid_filters.specs.meaning.sort.Numbers.{numbered_items}
use Rattle.liquid_filters.proofs.sort.numbers.list_of_numbered.Given as goal

abbrev pub invariant-loop-entry : goal.invariant-loop-entry
invariant-loop-entry l =
    map tree_of l.items.items ++ numbered_items (map numbered_view (drop l.entry-index l.numbered))
    ≡ numbered_items (map numbered_view l.numbered)
