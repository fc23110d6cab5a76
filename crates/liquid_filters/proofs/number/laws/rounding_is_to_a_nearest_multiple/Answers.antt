use Rattle.liquid_filters.proofs.NearestLemmas.{rounded_nearest}
use Rattle.liquid_filters.proofs.number.laws.rounding_is_to_a_nearest_multiple.Goals as goal

pub returns : goal.returns
returns c = rounded_nearest c.args.number c.args.power
