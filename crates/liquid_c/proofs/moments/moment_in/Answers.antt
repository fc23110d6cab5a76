use Rattle.liquid_c.proofs.MomentLemmas.{bytes_write, bytes_write_none}
use Rattle.liquid_c.proofs.moments.moment_in.Goals as goal

pub returns-in-Ok-clause-fits : goal.returns-in-Ok-clause-fits
returns-in-Ok-clause-fits c =
    bytes_write c.args.bytes.now c.in-Ok.written.now c.moment_in_text.result c.in-Ok.ensures.cases.0 c.in-Ok.ensures.cases.1
    c.moment_in_text.ensures.fits

pub returns-in-Ok-clause-none : goal.returns-in-Ok-clause-none
returns-in-Ok-clause-none c =
    bytes_write_none c.args.bytes.now c.in-Ok.written.now c.moment_in_text.result c.in-Ok.ensures.cases.0 c.moment_in_text.ensures.none
