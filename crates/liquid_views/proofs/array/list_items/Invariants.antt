use Rattle.std.proofs.Common.{◌≡◌, ℕ, List, ◌++◌, drop}
use Rattle.std.specs.Fmt.{HasWritten, IsPlainFormatter}
use Rattle.liquid_value.specs.meaning.Render.{listed_items}
use Rattle.liquid_views.specs.meaning.Trees.{items_by}
use Rattle.liquid_views.proofs.array.list_items.Given as goal

abbrev pub invariant-loop-item : goal.invariant-loop-item
invariant-loop-item g l =
    (done : List ℕ) × (listed_items (items_by g.T.ValueView.tree l.items) ≡ done
    ++ listed_items (items_by g.T.ValueView.tree (drop l.item-index l.items)))
    × (IsPlainFormatter l.initial.f → HasWritten g.W.Write.write_str_gives l.initial.f done l.f)
