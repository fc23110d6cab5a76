use Rattle.std.proofs.Common.{◌≡◌, ◌+◌, drop, map}
use Rattle.liquid_value.specs.meaning.View.{view as tree_of}
use Rattle.liquid_std.specs.meaning.conditions.Branches.{part_when}
use Rattle.liquid_std.specs.meaning.conditions.Values.{expressions_of}
use Rattle.liquid_std.proofs.conditions.branches.part_when.Given as goal

abbrev pub invariant-loop-values : goal.invariant-loop-values
invariant-loop-values g l =
    let v = g.R.Runtime.view l.runtime in
    (l.part ≡ l.values-index + 1)
    × (part_when l.equality v (tree_of l.value) 1 (map expressions_of l.alternatives) ≡ part_when l.equality v (tree_of l.value) l.part
    (map expressions_of (drop l.values-index l.alternatives)))
