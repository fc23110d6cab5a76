use Rattle.std.proofs.Common.{◌≡◌, ◌++◌, drop, map}
use Rattle.liquid_filters.specs.meaning.list.Entries.{entry_view}
use Rattle.liquid_jekyll.specs.meaning.list.Ordering.{with_texts}
use Rattle.liquid_jekyll.proofs.list.ordering.with_texts.Given as goal

abbrev pub invariant-loop-entry : goal.invariant-loop-entry
invariant-loop-entry l =
    map entry_view l.texts.items ++ with_texts (map entry_view (drop l.entry-index l.entries)) ≡ with_texts (map entry_view l.entries)
