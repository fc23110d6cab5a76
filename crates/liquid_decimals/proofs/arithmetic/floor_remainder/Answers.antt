use Rattle.std.proofs.Common.{◌∙◌, ◌≡◌, ◌-ℤ◌, to_z, of_z, pos, true, arith}
use Rattle.std.specs.Int.{w128}
use Rattle.std.specs.Int.Signed.{lt_z}
use Rattle.std.proofs.lemmas.Int.{ints}
use Rattle.liquid_decimals.proofs.FloorLemmas.{floor_remainder-negated}
use Rattle.liquid_decimals.proofs.arithmetic.floor_remainder.Goals as goal

pub returns-then-divisor-lt0 : goal.returns-then-divisor-lt0
returns-then-divisor-lt0 c =
    let a = c.args.dividend in
    let b = c.args.divisor in
    let divisor : to_z w128 (of_z w128 b) ≡ b = omega (arith, ints) in
    let low : lt_z b (pos 0) ≡ true = rw divisor at c.if-divisor-lt0.true in
    let negated_dividend : to_z w128 (of_z w128 (pos 0 -ℤ to_z w128 (of_z w128 a))) ≡ pos 0 -ℤ a = omega (arith, ints) in
    let negated_divisor : to_z w128 (of_z w128 (pos 0 -ℤ to_z w128 (of_z w128 b))) ≡ pos 0 -ℤ b = omega (arith, ints) in
    let rest = rw (negated_dividend, negated_divisor) at c.rem_euclid.ensures.value in
    let result : to_z w128 (of_z w128 (pos 0 -ℤ to_z w128 (of_z w128 c.rem_euclid.result)))
    ≡ pos 0 -ℤ c.rem_euclid.result = omega (arith, ints) in
    result ∙ floor_remainder-negated a b c.rem_euclid.result low rest
