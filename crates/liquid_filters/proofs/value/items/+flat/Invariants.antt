use Rattle.std.proofs.Common.{◌≡◌, ◌++◌, drop, map}
use Rattle.liquid_value.specs.meaning.View.{view as tree_of, items_view}
use Rattle.liquid_filters.specs.meaning.value.Items.{flat_items}
use Rattle.liquid_filters.proofs.value.items.+flat.Given as goal

abbrev pub invariant-push_items-loop-value : goal.invariant-push_items-loop-value
invariant-push_items-loop-value l =
    map (λ r. tree_of r.now) l.initial.items.items ++ flat_items (items_view l.array.items) ≡ map (λ r. tree_of r.now) l.items.items
    ++ flat_items (items_view (drop l.value-index l.value-items))
