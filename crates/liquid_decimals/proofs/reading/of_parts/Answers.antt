use Rattle.std.proofs.Common.{◌≡◌, ◌<◌, length, Some, sym, ◌∙◌, arith}
use Rattle.std.proofs.lemmas.Bool.Decides.{nat_tests}
use Rattle.liquid_decimals.specs.steps.Digits.{digits_after}
use Rattle.liquid_decimals.proofs.DigitsRead.{parts_some}
use Rattle.liquid_decimals.proofs.reading.of_parts.Goals as goal

pub returns-in-Some : goal.returns-in-Some
returns-in-Some c =
    let whole : 0 < length c.args.whole.now = grind (arith, nat_tests) in
    let fraction : 0 < length c.args.fraction.now = grind (arith, nat_tests) in
    let first : digits_after 0 c.args.whole.now ≡ Some c.in-Some.number = sym c.digits_after.ensures ∙ c.in-Some.is in
    c.with_digits.ensures ∙ parts_some c.args.minus c.args.whole.now c.args.fraction.now c.in-Some.number whole fraction first
