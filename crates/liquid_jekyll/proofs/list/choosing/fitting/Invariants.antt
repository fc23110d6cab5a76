use Rattle.std.proofs.Common.{◌≡◌, ◌++◌, drop, filter, map}
use Rattle.liquid_value.specs.meaning.View.{view as tree_of}
use Rattle.liquid_filters.specs.meaning.list.Choices.{items_in}
use Rattle.liquid_filters.specs.meaning.list.Entries.{entry_view}
use Rattle.liquid_jekyll.specs.meaning.list.Choosing.{fits}
use Rattle.liquid_jekyll.proofs.list.choosing.fitting.Given as goal

abbrev pub invariant-loop-entry : goal.invariant-loop-entry
invariant-loop-entry l =
    map tree_of l.kept.items ++ items_in (filter (λ e. fits (tree_of l.wanted) e.0) (map entry_view (drop l.entry-index l.entries)))
    ≡ items_in (filter (λ e. fits (tree_of l.wanted) e.0) (map entry_view l.entries))
