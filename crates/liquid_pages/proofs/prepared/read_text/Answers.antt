use Rattle.liquid_pages.proofs.prepared.read_text.Goals as goal

pub returns-in-Ok-store_of : goal.returns-in-Ok-store_of
returns-in-Ok-store_of g c = (λ answer reads. c.in-Ok.ensures answer (rw c.deref.ensures reads), c.in-Ok-store_of.ensures)

pub returns-in-Err : goal.returns-in-Err
returns-in-Err g c = λ answer reads. c.in-Err.ensures answer (rw c.deref.ensures reads)
