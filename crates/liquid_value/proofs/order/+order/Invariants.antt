use Rattle.std.proofs.Common.{◌≡◌, drop}
use Rattle.liquid_value.specs.meaning.Order.{items_cmp, members_cmp}
use Rattle.liquid_value.specs.meaning.View.{items_view, members_view}
use Rattle.liquid_value.proofs.order.+order.Given as goal

abbrev pub invariant-items_cmp-loop-index : goal.invariant-items_cmp-loop-index
invariant-items_cmp-loop-index l = items_cmp (items_view l.left.items) (items_view l.right.items) ≡ items_cmp
    (items_view (drop l.index l.left.items)) (items_view (drop l.index l.right.items))

abbrev pub invariant-members_cmp-loop-key : goal.invariant-members_cmp-loop-key
invariant-members_cmp-loop-key l = members_cmp (members_view l.left.entries) (members_view l.right.entries) ≡ members_cmp
    (members_view l.key-iterator) (members_view l.others)
