use Rattle.std.proofs.Common.{ap}
use Rattle.liquid_template.specs.steps.Place.{text_of}
use Rattle.liquid_template.proofs.Outlets.{text_written, text_lost}
use Rattle.liquid_template.proofs.Pieces.{told_memory}
use Rattle.liquid_template.proofs.outlet.OutletOut.put.Goals as goal

pub returns-in-Ok-clause-put : goal.returns-in-Ok-clause-put
returns-in-Ok-clause-put g c = text_written _ _ _ _ _ _ c.requires c.utf8.piece (ap text_of c.in-Some.is) c.in-Ok.ensures.bytes

pub returns-in-Err-clause-put : goal.returns-in-Err-clause-put
returns-in-Err-clause-put g c =
    rw c.refuse.ensures (text_lost _ _ _ _ _ _ told_memory (ap text_of c.in-Some.is) c.in-Err.ensures.bytes)
