use Rattle.std.proofs.Common.{◌≡◌, ◌++◌, ◌≤◌}
use Rattle.std.specs.Prelude.{string_bytes}
use Rattle.liquid_decimals.specs.meaning.Written.{places}
use Rattle.liquid_decimals.proofs.writing.push_places.Given as goal

abbrev pub invariant-loop-left : goal.invariant-loop-left
invariant-loop-left l =
    (string_bytes l.text ++ places l.left l.magnitude ≡ string_bytes l.initial.text ++ places l.count l.magnitude) × (l.left ≤ 18)

abbrev pub decreases-loop-left : goal.decreases-loop-left
decreases-loop-left l = l.left
