use Rattle.liquid_decimals.specs.meaning.Dec.{dec}
use Rattle.liquid_decimals.proofs.MinorLaw.{minor_and_back}
use Rattle.liquid_decimals.proofs.laws.no_digit_is_lost.Goals as goal

pub returns : goal.returns
returns c h = minor_and_back (dec c.args.decimal) c.args.scale h
