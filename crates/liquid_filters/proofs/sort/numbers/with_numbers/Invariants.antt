use Rattle.std.proofs.Common.{◌≡◌, drop, map}
use Rattle.liquid_filters.specs.meaning.list.Entries.{entry_view}
use Rattle.liquid_filters.proofs.ListSteps.{after}
use Rattle.liquid_filters.specs.meaning.sort.Numbered.{numbered_view}
use Rattle.liquid_filters.specs.meaning.sort.Numbers.{numbered}
use Rattle.liquid_filters.proofs.sort.numbers.with_numbers.Given as goal

abbrev pub invariant-loop-entry : goal.invariant-loop-entry
invariant-loop-entry l =
    numbered (map entry_view l.entries) ≡ after (map numbered_view l.numbered.items)
    (numbered (map entry_view (drop l.entry-index l.entries)))
