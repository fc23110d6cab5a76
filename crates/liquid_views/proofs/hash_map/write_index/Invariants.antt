use Rattle.std.proofs.Common.{◌≡◌, ℕ, List, ◌++◌}
use Rattle.std.specs.Fmt.{HasWritten, IsPlainFormatter}
use Rattle.liquid_value.specs.meaning.Render.{render_members}
use Rattle.liquid_views.specs.meaning.Entries.{index_members}
use Rattle.liquid_views.proofs.hash_map.write_index.Given as goal

abbrev pub invariant-loop-key : goal.invariant-loop-key
invariant-loop-key g l =
    (done : List ℕ) × (render_members (index_members g.V.ValueView.tree l.index.entries) ≡ done
    ++ render_members (index_members g.V.ValueView.tree l.key-iterator))
    × (IsPlainFormatter l.initial.f → HasWritten g.W.Write.write_str_gives l.initial.f done l.f)
