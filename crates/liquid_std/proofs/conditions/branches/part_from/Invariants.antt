use Rattle.std.proofs.Common.{◌≡◌, ◌+◌, drop, map}
use Rattle.liquid_std.specs.meaning.conditions.Branches.{part_if}
use Rattle.liquid_std.specs.meaning.conditions.Conditions.{condition_of}
use Rattle.liquid_std.proofs.conditions.branches.part_from.Given as goal

abbrev pub invariant-loop-condition : goal.invariant-loop-condition
invariant-loop-condition g l =
    let v = g.R.Runtime.view l.runtime in
    (l.part ≡ l.first + l.condition-index) × (part_if l.equality v l.first (map condition_of l.conditions) ≡ part_if l.equality v l.part
    (map condition_of (drop l.condition-index l.conditions)))
