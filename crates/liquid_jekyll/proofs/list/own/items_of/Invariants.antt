use Rattle.std.proofs.Common.{◌≡◌, ◌++◌, drop, map}
use Rattle.liquid_value.specs.meaning.View.{view as tree_of, items_view}
use Rattle.liquid_filters.specs.meaning.value.Items.{own_items}
use Rattle.liquid_jekyll.proofs.list.own.items_of.Given as goal

abbrev pub invariant-loop-item : goal.invariant-loop-item
invariant-loop-item l =
    map (λ r. tree_of r.now) l.all.items ++ own_items (items_view (drop l.item-index l.item-items)) ≡ own_items (items_view l.items.items)
