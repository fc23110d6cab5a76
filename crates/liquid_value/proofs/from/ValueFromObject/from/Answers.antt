use Rattle.liquid_value.proofs.Listed.{view-own_object}
use Rattle.liquid_value.proofs.from.ValueFromObject.from.Goals as goal

pub returns : goal.returns
returns c = view-own_object c.args.other
