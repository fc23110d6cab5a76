use Rattle.std.proofs.Common.{◌∙◌, ◌≡◌, ◌+ℤ◌, to_z, of_z, arith}
use Rattle.std.specs.Int.{w128}
use Rattle.std.proofs.lemmas.Int.{ints}
use Rattle.liquid_decimals.specs.meaning.Dec.{dec}
use Rattle.liquid_decimals.proofs.Shared.{plus_by}
use Rattle.liquid_decimals.proofs.decimal.Decimal.plus.Goals as goal

pub returns : goal.returns
returns c =
    let a = c.mantissa_at.result in
    let b = c.mantissa_at-2.result in
    let s : to_z w128 (of_z w128 (to_z w128 (of_z w128 a) +ℤ to_z w128 (of_z w128 b))) ≡ a +ℤ b = omega (arith, ints) in
    c.narrow.ensures ∙ plus_by (dec c.args.self) (dec c.args.addend) c.max-scale.result a b _
    c.max-scale.ensures c.mantissa_at.ensures.value c.mantissa_at-2.ensures.value s
