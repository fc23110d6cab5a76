use Rattle.std.proofs.Common.{arith}
use Rattle.liquid_filters.proofs.RoundingLemmas.{rounded-none}
use Rattle.liquid_decimals.proofs.Tens.{tens_above_0}
use Rattle.liquid_filters.proofs.number.rounding.round_to_digits.Goals as goal

pub returns-then-power-gt-GREATEST_POWER : goal.returns-then-power-gt-GREATEST_POWER
returns-then-power-gt-GREATEST_POWER c = grind (arith, rounded-none)

pub round_to_multiple-requires-clause-above : goal.round_to_multiple-requires-clause-above
round_to_multiple-requires-clause-above c = grind (arith, tens_above_0)
