use Rattle.std.proofs.Common.{◌≡◌, ◌++◌, drop, map}
use Rattle.liquid_value.specs.meaning.View.{view as tree_of}
use Rattle.liquid_filters.proofs.list.lists.list_of.Given as goal

abbrev pub invariant-loop-item : goal.invariant-loop-item
invariant-loop-item l =
    map tree_of l.copies.items ++ map (λ r. tree_of r.now) (drop l.item-index l.items) ≡ map (λ r. tree_of r.now) l.items
