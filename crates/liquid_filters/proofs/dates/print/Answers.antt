use Rattle.std.proofs.Common.{◌≡◌, length, nat_eq, false, arith}
use Rattle.std.proofs.lemmas.Bool.Decides.{nat_tests}
use Rattle.liquid_value.specs.meaning.View.{view as tree_of}
use Rattle.liquid_filters.proofs.DateSteps.{printed_of}
use Rattle.liquid_filters.proofs.dates.print.Goals as goal

pub returns-in-Some : goal.returns-in-Some
returns-in-Some c =
    let full : nat_eq (length c.args.pattern.now) 0 ≡ false = grind (arith, nat_tests, c.if-is_empty.false, c.is_empty.ensures) in
    rw (printed_of c.args.now (tree_of c.args.input.now) c.args.pattern.now c.in-Some.moment full
    (rw c.in-Some.is at c.in_ok-moment.ensures.fits))
    c.format.ensures
