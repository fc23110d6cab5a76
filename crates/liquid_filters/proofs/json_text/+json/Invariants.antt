use Rattle.std.proofs.Common.{◌≡◌, ◌++◌, drop, false, string_bytes}
use Rattle.liquid_value.specs.meaning.View.{items_view, members_view}
use Rattle.liquid_filters.specs.meaning.Json.{items_json, members_json}
use Rattle.liquid_filters.proofs.json_text.+json.Given as goal

abbrev pub invariant-push_listed-loop-item : goal.invariant-push_listed-loop-item
invariant-push_listed-loop-item l =
    string_bytes l.out ++ items_json l.later (items_view (drop l.item-index l.item-items)) ≡ string_bytes l.initial.out
    ++ items_json false (items_view l.items.items)

abbrev pub invariant-push_entries-loop-name : goal.invariant-push_entries-loop-name
invariant-push_entries-loop-name l =
    string_bytes l.out ++ members_json l.later (members_view l.name-iterator) ≡ string_bytes l.initial.out
    ++ members_json false (members_view l.members.entries)
