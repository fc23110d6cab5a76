use Rattle.std.proofs.Common.{◌≡◌, drop, map}
use Rattle.std.specs.List.{list_all}
use Rattle.liquid_value.specs.meaning.View.{view as tree_of}
use Rattle.liquid_filters.specs.meaning.list.Choices.{keys_of}
use Rattle.liquid_filters.specs.meaning.list.Entries.{entry_view}
use Rattle.liquid_filters.specs.meaning.sort.Order.{one_kind}
use Rattle.liquid_jekyll.proofs.list.ordering.are_kin.Given as goal

abbrev pub invariant-loop-entry : goal.invariant-loop-entry
invariant-loop-entry l =
    list_all (one_kind (tree_of l.key)) (keys_of (map entry_view l.entries)) ≡ list_all (one_kind (tree_of l.key))
    (keys_of (map entry_view (drop l.entry-index l.entries)))
