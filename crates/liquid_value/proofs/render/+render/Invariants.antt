use Rattle.std.proofs.Common.{◌≡◌, ℕ, List, ◌++◌, drop}
use Rattle.std.specs.Fmt.{HasWritten, IsPlainFormatter}
use Rattle.liquid_value.specs.meaning.Render.{render_items, render_members}
use Rattle.liquid_value.specs.meaning.View.{items_view, members_view}
use Rattle.liquid_value.proofs.render.+render.Given as goal

abbrev pub invariant-write_items-loop-item : goal.invariant-write_items-loop-item
invariant-write_items-loop-item g l =
    (done : List ℕ) × (render_items (items_view l.items.items) ≡ done ++ render_items (items_view (drop l.item-index l.item-items)))
    × (IsPlainFormatter l.initial.f → HasWritten g.W.Write.write_str_gives l.initial.f done l.f)

abbrev pub invariant-write_members-loop-key : goal.invariant-write_members-loop-key
invariant-write_members-loop-key g l =
    (done : List ℕ) × (render_members (members_view l.members.entries) ≡ done ++ render_members (members_view l.key-iterator))
    × (IsPlainFormatter l.initial.f → HasWritten g.W.Write.write_str_gives l.initial.f done l.f)
