use Rattle.std.proofs.Common.{◌≡◌, ◌++◌, map}
use Rattle.liquid_value.specs.meaning.View.{view, members_view}
use Rattle.liquid_tags.specs.meaning.Series.{pairs}
use Rattle.liquid_tags.proofs.for_block.series.pairs.Given as goal

abbrev pub invariant-loop-name : goal.invariant-loop-name
invariant-loop-name l = pairs (members_view l.members.entries) ≡ map view l.items.items ++ pairs (members_view l.name-iterator)
