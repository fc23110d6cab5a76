use Rattle.std.proofs.Common.{◌<◌, length, ◌∙◌, arith}
use Rattle.std.proofs.lemmas.Bool.Decides.{nat_tests}
use Rattle.liquid_decimals.proofs.DigitsRead.{whole_is}
use Rattle.liquid_decimals.proofs.reading.of_whole.Goals as goal

pub returns : goal.returns
returns c =
    let some : 0 < length c.args.whole.now = grind (arith, nat_tests) in
    c.with_digits.ensures ∙ whole_is c.args.minus c.args.whole.now some
