use Rattle.std.proofs.Common.{arith}
use Rattle.liquid_decimals.proofs.Digits.{next_grouped}
use Rattle.liquid_decimals.proofs.writing.push_grouped.Goals as goal

pub loop-index-preserved : goal.loop-index-preserved
loop-index-preserved c = grind (arith, next_grouped)
