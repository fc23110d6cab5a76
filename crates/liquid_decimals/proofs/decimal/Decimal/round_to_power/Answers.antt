use Rattle.std.proofs.Common.{◌<◌, ◌∙◌, FitsSigned, w64, arith, rules}
use Rattle.liquid_decimals.specs.meaning.Dec.{dec}
use Rattle.liquid_decimals.proofs.Nearest.{far_rounds}
use Rattle.liquid_decimals.proofs.decimal.Decimal.round_to_power.Goals as goal

pub returns-then-power-gt-GREATEST_POWER : goal.returns-then-power-gt-GREATEST_POWER
returns-then-power-gt-GREATEST_POWER c =
    let fits : FitsSigned w64 c.args.self.mantissa = search rules in
    let far : 19 < c.args.power = omega arith in
    c.new.ensures ∙ far_rounds (dec c.args.self) c.args.power fits far
