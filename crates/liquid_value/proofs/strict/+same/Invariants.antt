use Rattle.std.proofs.Common.{◌≡◌, drop}
use Rattle.liquid_value.specs.meaning.Strict.{same_items, same_members}
use Rattle.liquid_value.specs.meaning.View.{items_view, members_view}
use Rattle.liquid_value.proofs.strict.+same.Given as goal

abbrev pub invariant-same_items-loop-index : goal.invariant-same_items-loop-index
invariant-same_items-loop-index l = same_items (items_view l.left.items) (items_view l.right.items) ≡ same_items
    (items_view (drop l.index l.left.items)) (items_view (drop l.index l.right.items))

abbrev pub invariant-same_members-loop-key : goal.invariant-same_members-loop-key
invariant-same_members-loop-key l = same_members (members_view l.left.entries) (members_view l.right.entries) ≡ same_members
    (members_view l.key-iterator) (members_view l.others)
