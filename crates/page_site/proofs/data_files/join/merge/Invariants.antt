use Rattle.std.proofs.Common.{◌≡◌}
use Rattle.liquid_value.specs.meaning.View.{members_view}
use Rattle.page_site.specs.meaning.data_files.Merged.{merged}
use Rattle.page_site.proofs.data_files.join.merge.Given as goal

abbrev pub invariant-loop-name : goal.invariant-loop-name
invariant-loop-name l =
    (goal.iterator-loop-name).can_next l.name-iterator × (goal.iterator-loop-name).is_finite l.name-iterator
    × (merged (members_view l.fn.below.entries) (members_view l.fn.above.entries)
    ≡ merged (members_view l.both.entries) (members_view l.name-iterator))
