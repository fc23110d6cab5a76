use Rattle.std.proofs.Common.{◌≡◌, ◌++◌, map}
use Rattle.std.specs.Map.{keys_of}
use Rattle.std.specs.Vec.Iter.{into_iter_items}
use Rattle.serde_json.specs.View.{items_view as json_items, members_view as json_members}
use Rattle.liquid_value.specs.meaning.View.{view, entry_view}
use Rattle.liquid_json.specs.meaning.Given.{items_given, members_given}
use Rattle.liquid_json.proofs.Given.{after_items, after_members}
use Rattle.liquid_json.proofs.convert.+convert.Given as goal

abbrev pub invariant-into_items-loop-item : goal.invariant-into_items-loop-item
invariant-into_items-loop-item l =
    (goal.iterator-into_items-loop-item).can_next l.item-iterator × (goal.iterator-into_items-loop-item).is_finite l.item-iterator
    × (items_given (json_items l.fn.items.items) ≡ after_items (map view l.values.items)
    (items_given (json_items (into_iter_items l.item-iterator))))

abbrev pub invariant-into_members-loop-name : goal.invariant-into_members-loop-name
invariant-into_members-loop-name l =
    (goal.iterator-into_members-loop-name).can_next l.name-iterator × (goal.iterator-into_members-loop-name).is_finite l.name-iterator
    × (members_given (json_members l.fn.members.entries) ≡ after_members (map entry_view l.entries.items)
    (members_given (json_members l.name-iterator)))
    × (keys_of l.fn.members.entries ≡ keys_of l.entries.items ++ keys_of l.name-iterator)
