use Rattle.std.proofs.Common.{◌∙◌, ◌≡◌, ◌≢◌, pos, to_z, of_z, arith}
use Rattle.std.specs.Int.{w128}
use Rattle.std.proofs.lemmas.Int.{ints}
use Rattle.liquid_decimals.specs.meaning.Dec.{dec}
use Rattle.liquid_decimals.proofs.Shared.{modulo_by}
use Rattle.liquid_decimals.proofs.decimal.Decimal.modulo.Goals as goal

pub returns : goal.returns
returns c =
    let a = c.mantissa_at.result in
    let b = c.mantissa_at-2.result in
    let some : c.args.divisor.mantissa ≢ pos 0 = λ e. grind (arith, ints) in
    let first : to_z w128 (of_z w128 a) ≡ a = omega (arith, ints) in
    let second : to_z w128 (of_z w128 b) ≡ b = omega (arith, ints) in
    let rest = rw (first, second) at c.floor_remainder-rest.ensures in
    let s : to_z w128 (of_z w128 c.floor_remainder-rest.result) ≡ c.floor_remainder-rest.result = omega (arith, ints) in
    c.narrow.ensures ∙ modulo_by (dec c.args.self) (dec c.args.divisor) c.max-scale.result a b _
    some c.max-scale.ensures c.mantissa_at.ensures.value c.mantissa_at-2.ensures.value (s ∙ rest)
