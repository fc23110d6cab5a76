use Rattle.std.proofs.Common.{◌≡◌, ◌++◌, drop, map}
use Rattle.liquid_value.specs.meaning.View.{view as tree_of, items_view}
use Rattle.liquid_filters.specs.meaning.value.Items.{own_items}
use Rattle.liquid_jekyll.proofs.value.lists.push_copies.Given as goal

abbrev pub invariant-loop-item : goal.invariant-loop-item
invariant-loop-item l =
    map tree_of l.initial.all.items ++ own_items (items_view l.items.items) ≡ map tree_of l.all.items
    ++ own_items (items_view (drop l.item-index l.item-items))
