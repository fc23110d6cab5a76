use Rattle.std.proofs.Common.{◌≡◌}
use Rattle.liquid_value.specs.meaning.Tree.{no_members}
use Rattle.liquid_value.specs.meaning.View.{members_view}
use Rattle.liquid_views.specs.meaning.Entries.{put_entries}
use Rattle.liquid_views.proofs.hash_map.copy_entries.Given as goal

abbrev pub invariant-loop-key : goal.invariant-loop-key
invariant-loop-key g l =
    put_entries g.V.ValueView.tree l.map.entries no_members ≡ put_entries g.V.ValueView.tree l.key-iterator (members_view l.copies.entries)
