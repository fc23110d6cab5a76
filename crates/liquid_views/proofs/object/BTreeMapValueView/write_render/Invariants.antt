use Rattle.std.proofs.Common.{◌≡◌, ℕ, List, ◌++◌}
use Rattle.std.specs.Fmt.{HasWritten, IsPlainFormatter}
use Rattle.liquid_value.specs.meaning.Render.{render_members}
use Rattle.liquid_views.specs.meaning.Trees.{members_by}
use Rattle.liquid_views.proofs.object.BTreeMapValueView.write_render.Given as goal

abbrev pub invariant-loop-key : goal.invariant-loop-key
invariant-loop-key g l =
    (done : List ℕ) × (render_members (members_by g.K.ObjectIndex.index g.V.ValueView.tree l.self.entries) ≡ done
    ++ render_members (members_by g.K.ObjectIndex.index g.V.ValueView.tree l.key-iterator))
    × (IsPlainFormatter l.initial.f → HasWritten g.W.Write.write_str_gives l.initial.f done l.f)
