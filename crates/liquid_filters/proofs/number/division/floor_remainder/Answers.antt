use Rattle.std.proofs.Common.{arith}
use Rattle.std.proofs.lemmas.Int.{to_z-of_z}
use Rattle.liquid_decimals.proofs.FloorLemmas.{floor_remainder-negated}
use Rattle.liquid_filters.proofs.number.division.floor_remainder.Goals as goal

pub returns-then-divisor-lt0 : goal.returns-then-divisor-lt0
returns-then-divisor-lt0 c = grind (arith, to_z-of_z, floor_remainder-negated)
