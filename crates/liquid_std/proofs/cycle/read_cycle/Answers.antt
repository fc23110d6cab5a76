use Rattle.std.proofs.Common.{sym, subst}
use Rattle.liquid_error.specs.meaning.Told.{Gives}
use Rattle.liquid_std.specs.meaning.marks.Cycles.{cycle_of}
use Rattle.liquid_std.specs.meaning.CyclesGiven.{given_after}
use Rattle.liquid_std.proofs.cycle.read_cycle.Goals as goal

pub returns-in-Some : goal.returns-in-Some
returns-in-Some c = λ ts are.
    let given = c.in-Some.ensures ts are in
    subst (λ name. Gives cycle_of c.read_named.result (given_after ts name)) (sym given.1)
    (c.read_named.ensures given.0.0 given.2.token_is given.0.1 given.2.left)
