use Rattle.std.proofs.Common.{◌≡◌, drop, map}
use Rattle.json.specs.Value.{value_view as json_view, items_view as json_items, members_view as json_members}
use Rattle.liquid_value.specs.meaning.Tree.{no_members}
use Rattle.liquid_value.specs.meaning.View.{view, members_view}
use Rattle.liquid_json.specs.meaning.decimals.Given.{items_given, members_given}
use Rattle.liquid_json.proofs.DecimalWalk.{after_items}
use Rattle.liquid_json.proofs.decimals.convert.+convert.Given as goal

abbrev pub invariant-convert_items-loop-item : goal.invariant-convert_items-loop-item
invariant-convert_items-loop-item l =
    items_given (json_items l.item-items) ≡ after_items (map view l.values.items)
    (items_given (json_items (drop l.item-index l.item-items)))

abbrev pub invariant-convert_members-loop-member : goal.invariant-convert_members-loop-member
invariant-convert_members-loop-member l =
    members_given (json_members l.member-items) no_members ≡ members_given (json_members (drop l.member-index l.member-items))
    (members_view l.object.entries)
