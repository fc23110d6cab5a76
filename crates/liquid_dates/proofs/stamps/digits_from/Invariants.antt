use Rattle.std.proofs.Common.{◌≡◌, ◌<◌, ◌≤◌, ◌^◌, length}
use Rattle.liquid_dates.specs.steps.DateReader.{digits_from}
use Rattle.liquid_dates.proofs.stamps.digits_from.Given as goal

abbrev pub invariant-digits : goal.invariant-digits
invariant-digits l =
    (digits_from l.count l.number l.rest ≡ digits_from 0 0 l.text) × (l.count ≤ 10) × (l.number < 10 ^ l.count)

abbrev pub decreases-digits : goal.decreases-digits
decreases-digits l = length l.rest
