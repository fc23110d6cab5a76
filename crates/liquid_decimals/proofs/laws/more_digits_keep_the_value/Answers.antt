use Rattle.liquid_decimals.specs.meaning.Dec.{dec}
use Rattle.liquid_decimals.proofs.LawProofs.{same_with_more_digits}
use Rattle.liquid_decimals.proofs.laws.more_digits_keep_the_value.Goals as goal

pub returns : goal.returns
returns c h = same_with_more_digits (dec c.args.decimal) c.args.scale h
