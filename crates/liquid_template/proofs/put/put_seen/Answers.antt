use Rattle.liquid_template.proofs.put.put_seen.Goals as goal

pub returns-in-Loop-clause-out : goal.returns-in-Loop-clause-out
returns-in-Loop-clause-out g c = rw c.in-Loop.is c.put_loop.ensures.out
