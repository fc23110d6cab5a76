use Rattle.std.proofs.Common.{◌≡◌, ◌++◌, map}
use Rattle.liquid_value.specs.meaning.View.{view as tree_of, members_view}
use Rattle.liquid_jekyll.specs.meaning.list.Ordering.{pairs}
use Rattle.liquid_jekyll.proofs.list.ordering.pairs_of.Given as goal

abbrev pub invariant-loop-name : goal.invariant-loop-name
invariant-loop-name l =
    map tree_of l.pairs.items ++ pairs (members_view l.name-iterator) ≡ pairs (members_view l.members.entries)
