use Rattle.std.proofs.Common.{◌≡◌, ◌++◌, drop, map}
use Rattle.liquid_value.specs.meaning.Tree.{Tree}
use Rattle.liquid_filters.specs.meaning.list.Entries.{entry_view}
use Rattle.liquid_filters.specs.meaning.sort.Order.{natural_key}
use Rattle.liquid_filters.proofs.sort.order.natural_entries.Given as goal

abbrev pub invariant-loop-entry : goal.invariant-loop-entry
invariant-loop-entry l =
    map entry_view l.natural.items ++ map (λ (e : Tree × Tree). (natural_key e.0, e.1))
    (map entry_view (drop l.entry-index l.entries)) ≡ map (λ (e : Tree × Tree). (natural_key e.0, e.1)) (map entry_view l.entries)
