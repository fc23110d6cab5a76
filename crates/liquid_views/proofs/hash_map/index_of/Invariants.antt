use Rattle.std.proofs.Common.{◌≡◌}
use Rattle.liquid_value.specs.meaning.Tree.{no_members}
use Rattle.liquid_views.specs.meaning.Entries.{put_entries, index_members}
use Rattle.liquid_views.proofs.hash_map.index_of.Given as goal

abbrev pub invariant-loop-key : goal.invariant-loop-key
invariant-loop-key g l =
    put_entries g.V.ValueView.tree l.map.entries no_members ≡ put_entries g.V.ValueView.tree l.key-iterator
    (index_members g.V.ValueView.tree l.index.entries)
