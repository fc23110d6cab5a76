use Rattle.liquid_c.proofs.MomentLemmas.{found_for, none_for}
use Rattle.liquid_c.proofs.moments.moment_in_text.Goals as goal

pub returns-clause-fits : goal.returns-clause-fits
returns-clause-fits c = found_for _ _ c.moment_of.result c.in_ok-value.ensures c.moment_of.ensures.fits

pub returns-clause-none : goal.returns-clause-none
returns-clause-none c = none_for _ _ c.moment_of.result c.in_ok-value.ensures c.moment_of.ensures.none
