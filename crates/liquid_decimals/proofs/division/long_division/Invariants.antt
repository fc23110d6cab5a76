use Rattle.std.proofs.Common.{◌≡◌, ◌≤◌, ◌<◌, ◌+◌, ◌*◌, ◌^◌}
use Rattle.liquid_decimals.proofs.division.long_division.Given as goal

abbrev pub invariant-loop-digit : goal.invariant-loop-digit
invariant-loop-digit l =
    (l.quotient * l.divisor + l.rest ≡ l.dividend * 10 ^ l._digit) × (l.rest < l.divisor) × (l.quotient ≤ 10 ^ 37)
