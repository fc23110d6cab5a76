use Rattle.std.proofs.Common.{◌≡◌, drop, map}
use Rattle.liquid_std.specs.meaning.conditions.Conditions.{joined_hold, joined_of, test_of}
use Rattle.liquid_std.proofs.conditions.condition.holds.Given as goal

abbrev pub invariant-loop-joined : goal.invariant-loop-joined
invariant-loop-joined g l =
    let v = g.R.Runtime.view l.runtime in
    joined_hold l.equality v (map joined_of l.condition.joined.items) (test_of l.condition.last)
    ≡ joined_hold l.equality v (map joined_of (drop l.joined-index l.condition.joined.items)) (test_of l.condition.last)
