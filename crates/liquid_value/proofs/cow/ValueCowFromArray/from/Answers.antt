use Rattle.liquid_value.proofs.Listed.{view-own_array}
use Rattle.liquid_value.proofs.cow.ValueCowFromArray.from.Goals as goal

pub returns : goal.returns
returns c = view-own_array c.args.other
