use Rattle.std.proofs.Common.{◌≡◌, ◌++◌, map, take}
use Rattle.serde_json.specs.View.{view as json_view}
use Rattle.liquid_value.specs.meaning.View.{view}
use Rattle.liquid_json.specs.meaning.Shown.{value_shown}
use Rattle.liquid_json.specs.steps.Named.{shown_entry, json_entry}
use Rattle.liquid_json.proofs.write.+write.Given as goal

abbrev pub invariant-from_entries-loop-name : goal.invariant-from_entries-loop-name
invariant-from_entries-loop-name l = map shown_entry l.members.entries ≡ map json_entry l.entries.items ++ map shown_entry l.name-iterator

abbrev pub invariant-from_items-loop-item : goal.invariant-from_items-loop-item
invariant-from_items-loop-item l = map json_view l.shown.items ≡ map (λ v. value_shown (view v)) (take l.item-index l.item-items)
