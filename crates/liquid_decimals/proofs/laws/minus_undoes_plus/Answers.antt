use Rattle.liquid_decimals.specs.meaning.Dec.{dec}
use Rattle.liquid_decimals.proofs.LawProofs.{taken_and_added}
use Rattle.liquid_decimals.proofs.laws.minus_undoes_plus.Goals as goal

pub returns : goal.returns
returns c = taken_and_added (dec c.args.a) (dec c.args.b)
