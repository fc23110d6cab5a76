use Rattle.std.proofs.Common.{◌≡◌, List, ◌++◌, take, map}
use Rattle.liquid_value.specs.meaning.View.{view, entry_view, members_view}
use Rattle.liquid_value.proofs.Entries.{Entry}
use Rattle.liquid_value.proofs.clone.+copy.Given as goal

abbrev pub invariant-copy_array-loop-item : goal.invariant-copy_array-loop-item
invariant-copy_array-loop-item l = map view l.copies.items ≡ map view (take l.item-index l.item-items)

abbrev pub invariant-copy_entries-loop-key : goal.invariant-copy_entries-loop-key
invariant-copy_entries-loop-key l = map entry_view l.members.entries ≡ map entry_view l.copies.items ++ map entry_view l.key-iterator

abbrev pub invariant-copy_few-loop-key : goal.invariant-copy_few-loop-key
invariant-copy_few-loop-key l =
    (done : List Entry) × (l.members.entries ≡ done ++ l.key-iterator) × (members_view l.copies.entries ≡ members_view done)
