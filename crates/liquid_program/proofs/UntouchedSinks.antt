-- A sink that was not put to.
use Rattle.liquid_template.proofs.Growth.{Grows-start}

pub ruleset untouched = Grows-start
