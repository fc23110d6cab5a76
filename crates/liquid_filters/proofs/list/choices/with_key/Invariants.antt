use Rattle.std.proofs.Common.{◌≡◌, ◌++◌, drop, filter, map, not}
use Rattle.liquid_value.specs.meaning.Parts.{is_nil}
use Rattle.liquid_value.specs.meaning.View.{view as tree_of}
use Rattle.liquid_filters.specs.meaning.list.Choices.{items_in}
use Rattle.liquid_filters.specs.meaning.list.Entries.{entry_view}
use Rattle.liquid_filters.proofs.list.choices.with_key.Given as goal

abbrev pub invariant-loop-entry : goal.invariant-loop-entry
invariant-loop-entry l =
    map tree_of l.kept.items ++ items_in (filter (λ e. not (is_nil e.0)) (map entry_view (drop l.entry-index l.entries))) ≡ items_in
    (filter (λ e. not (is_nil e.0)) (map entry_view l.entries))
