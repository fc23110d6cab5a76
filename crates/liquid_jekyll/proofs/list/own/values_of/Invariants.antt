use Rattle.std.proofs.Common.{◌≡◌, ◌++◌, map}
use Rattle.liquid_value.specs.meaning.View.{view as tree_of, members_view}
use Rattle.liquid_jekyll.specs.meaning.list.Own.{member_values}
use Rattle.liquid_jekyll.proofs.list.own.values_of.Given as goal

abbrev pub invariant-loop-value : goal.invariant-loop-value
invariant-loop-value l =
    map (λ r. tree_of r.now) l.all.items ++ member_values (members_view l.value-iterator) ≡ member_values (members_view l.members.entries)
