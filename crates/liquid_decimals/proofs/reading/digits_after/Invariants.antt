use Rattle.std.proofs.Common.{◌≡◌, drop}
use Rattle.liquid_decimals.specs.steps.Digits.{digits_after}
use Rattle.liquid_decimals.proofs.reading.digits_after.Given as goal

abbrev pub invariant-loop-digit : goal.invariant-loop-digit
invariant-loop-digit l = digits_after l.initial.number l.digits ≡ digits_after l.number (drop l.digit-index l.digits)
