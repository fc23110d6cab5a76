use Rattle.std.proofs.Common.{◌≡◌, drop}
use Rattle.liquid_value.specs.meaning.View.{view as tree_of, items_view}
use Rattle.liquid_std.specs.meaning.conditions.Contained.{has_item}
use Rattle.liquid_std.proofs.conditions.contained.has_item.Given as goal

abbrev pub invariant-loop-item : goal.invariant-loop-item
invariant-loop-item l =
    has_item (tree_of l.value) (items_view l.items.items) ≡ has_item (tree_of l.value) (items_view (drop l.item-index l.items.items))
