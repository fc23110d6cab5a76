use Rattle.std.proofs.Common.{◌≡◌, ◌++◌, drop, filter, map}
use Rattle.liquid_value.specs.meaning.View.{view as tree_of}
use Rattle.liquid_filters.specs.meaning.list.Choices.{is_wanted, items_in}
use Rattle.liquid_filters.specs.meaning.list.Entries.{entry_view}
use Rattle.liquid_filters.proofs.list.choices.with_wanted.Given as goal

abbrev pub invariant-loop-entry : goal.invariant-loop-entry
invariant-loop-entry l =
    map tree_of l.kept.items ++ items_in (filter (λ e. is_wanted (tree_of l.wanted) e.0)
    (map entry_view (drop l.entry-index l.entries))) ≡ items_in (filter (λ e. is_wanted (tree_of l.wanted) e.0)
    (map entry_view l.entries))
