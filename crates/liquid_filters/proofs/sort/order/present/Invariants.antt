use Rattle.std.proofs.Common.{◌≡◌, ◌++◌, drop, map}
use Rattle.liquid_value.specs.meaning.View.{view as tree_of}
use Rattle.liquid_filters.specs.meaning.list.Choices.{keys_of}
use Rattle.liquid_filters.specs.meaning.list.Entries.{entry_view}
use Rattle.liquid_filters.specs.meaning.sort.Order.{present}
use Rattle.liquid_filters.proofs.sort.order.present.Given as goal

abbrev pub invariant-loop-entry : goal.invariant-loop-entry
invariant-loop-entry l =
    map (λ r. tree_of r.now) l.keys.items ++ present (keys_of (map entry_view (drop l.entry-index l.entries))) ≡ present
    (keys_of (map entry_view l.entries))
