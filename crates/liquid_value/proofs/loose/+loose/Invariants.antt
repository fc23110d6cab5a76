use Rattle.std.proofs.Common.{◌≡◌, drop}
use Rattle.liquid_value.specs.meaning.Loose.{items_facing, members_facing}
use Rattle.liquid_value.specs.meaning.View.{items_view, members_view}
use Rattle.liquid_value.proofs.loose.+loose.Given as goal

abbrev pub invariant-items_face-loop-index : goal.invariant-items_face-loop-index
invariant-items_face-loop-index l = items_facing l.onward (items_view l.left.items) (items_view l.right.items) ≡ items_facing l.onward
    (items_view (drop l.index l.left.items)) (items_view (drop l.index l.right.items))

abbrev pub invariant-members_face-loop-key : goal.invariant-members_face-loop-key
invariant-members_face-loop-key l = members_facing l.onward (members_view l.left.entries)
    (members_view l.right.entries) ≡ members_facing l.onward (members_view l.key-iterator) (members_view l.others)
