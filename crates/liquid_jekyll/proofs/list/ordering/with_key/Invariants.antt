use Rattle.std.proofs.Common.{◌≡◌, ◌++◌, drop, map}
use Rattle.liquid_filters.specs.meaning.list.Entries.{entry_view}
use Rattle.liquid_jekyll.specs.meaning.list.Ordering.{with_key}
use Rattle.liquid_jekyll.proofs.list.ordering.with_key.Given as goal

abbrev pub invariant-loop-entry : goal.invariant-loop-entry
invariant-loop-entry l =
    map entry_view l.present.items ++ with_key (map entry_view (drop l.entry-index l.entries)) ≡ with_key (map entry_view l.entries)
