use Rattle.std.proofs.Common.{◌*◌, ◌^◌, ◌∙◌, arith}
use Rattle.std.proofs.lemmas.Bool.Decides.{nat_tests}
use Rattle.liquid_decimals.proofs.Nearest.{digit_below_10, next_digit, past_at_end, tenfold_power}
use Rattle.liquid_decimals.proofs.division.long_division.Goals as goal

pub returns-then-quotient-from : goal.returns-then-quotient-from
returns-then-quotient-from c =
    let past = past_at_end c.args.dividend c.args.divisor c.args.digits c.loop-digit._digit c.loop-digit.quotient c.loop-digit.rest
    c.requires.positive c.loop-digit.invariant.0 (omega arith) in
    grind (arith, nat_tests)

pub loop-digit-preserved : goal.loop-digit-preserved
loop-digit-preserved c =
    let below = digit_below_10 c.loop-digit.rest c.args.divisor c.loop-digit.invariant.1 in (
      next_digit (c.args.dividend * 10 ^ c.loop-digit._digit) c.args.divisor c.loop-digit.quotient c.loop-digit.rest c.requires.positive
          c.loop-digit.invariant.0
          ∙ tenfold_power c.args.dividend c.loop-digit._digit,
      omega arith,
      grind arith,
    )
