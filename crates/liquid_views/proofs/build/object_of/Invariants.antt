use Rattle.std.proofs.Common.{◌≡◌, drop}
use Rattle.liquid_value.specs.meaning.Tree.{no_members}
use Rattle.liquid_value.specs.meaning.View.{members_view}
use Rattle.liquid_views.specs.meaning.Pairs.{put_pairs}
use Rattle.liquid_views.proofs.build.object_of.Given as goal

abbrev pub invariant-loop-pair : goal.invariant-loop-pair
invariant-loop-pair g l =
    put_pairs g.V.ValueView.tree l.pairs no_members ≡ put_pairs g.V.ValueView.tree (drop l.pair-index l.pairs)
    (members_view l.object.entries)
