use Rattle.std.proofs.Common.{◌≡◌, ◌++◌, drop, map}
use Rattle.liquid_value.specs.meaning.View.{view as tree_of, items_view}
use Rattle.liquid_filters.specs.meaning.value.Items.{own_items}
use Rattle.liquid_filters.proofs.list.lists.push_own_items.Given as goal

abbrev pub invariant-loop-other : goal.invariant-loop-other
invariant-loop-other l =
    map (λ r. tree_of r.now) l.initial.all.items ++ own_items (items_view l.others.items) ≡ map (λ r. tree_of r.now) l.all.items
    ++ own_items (items_view (drop l.other-index l.other-items))
