use Rattle.std.proofs.Common.{◌≡◌, List, ◌++◌}
use Rattle.liquid_value.specs.meaning.View.{members_view}
use Rattle.liquid_views.specs.meaning.Trees.{members_by}
use Rattle.liquid_views.proofs.object.copy_members.Given as goal

abbrev pub invariant-loop-key : goal.invariant-loop-key
invariant-loop-key g l =
    (done : List (g.row.K.Denot × g.row.V.Denot)) × (l.members.entries ≡ done ++ l.key-iterator)
    × (members_view l.copies.entries ≡ members_by g.K.ObjectIndex.index g.V.ValueView.tree done)
