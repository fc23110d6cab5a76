use Rattle.std.proofs.Common.{◌≤◌, FitsSigned, w64, arith, rules}
use Rattle.liquid_decimals.specs.meaning.Dec.{dec}
use Rattle.liquid_decimals.proofs.RoundTrip.{written_read}
use Rattle.liquid_decimals.proofs.laws.written_is_read.Goals as goal

pub returns : goal.returns
returns c =
    let fits : FitsSigned w64 c.args.decimal.mantissa = search rules in
    let low : c.args.decimal.scale ≤ 18 = omega arith in
    written_read (dec c.args.decimal) fits low
