use Rattle.std.proofs.Common.{◌≡◌, ℕ, List, ◌++◌, drop}
use Rattle.std.specs.Fmt.{HasWritten, IsPlainFormatter}
use Rattle.liquid_value.specs.meaning.Render.{listed_items}
use Rattle.liquid_value.specs.meaning.View.{items_view}
use Rattle.liquid_value.proofs.render.list_items.Given as goal

abbrev pub invariant-loop-item : goal.invariant-loop-item
invariant-loop-item g l =
    (done : List ℕ) × (listed_items (items_view l.items.items) ≡ done ++ listed_items (items_view (drop l.item-index l.item-items)))
    × (IsPlainFormatter l.initial.f → HasWritten g.W.Write.write_str_gives l.initial.f done l.f)
