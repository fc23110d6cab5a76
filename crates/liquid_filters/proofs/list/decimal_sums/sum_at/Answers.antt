use Rattle.std.proofs.Common.{ℤ, ap, sym, ◌∙◌, arith, of_z, to_z}
use Rattle.std.specs.Int.{w128}
use Rattle.std.specs.Prelude.{pos, ◌*ℤ◌, ◌+ℤ◌, ◌+◌, ◌^◌, drop, map}
use Rattle.std.proofs.lemmas.Int.{ints}
use Rattle.std.proofs.lemmas.List.{at_drop_all}
use Rattle.liquid_decimals.specs.meaning.Dec.{dec}
use Rattle.liquid_filters.specs.meaning.value.Numbers.{fits}
use Rattle.liquid_filters.specs.meaning.list.DecimalSums.{sum_at}
use Rattle.liquid_filters.proofs.Sums.{parts_joined, parts_moved}
use Rattle.liquid_paths.proofs.Turns.{map-drop}
use Rattle.liquid_filters.proofs.list.decimal_sums.sum_at.Goals as goal

pub loop-decimal-preserved : goal.loop-decimal-preserved
loop-decimal-preserved c =
    let upper = to_z w128 c.loop-decimal.upper-bits in
    let lower = to_z w128 c.loop-decimal.lower-bits in
    let rest = sum_at c.args.scale (map dec (drop (c.loop-decimal.decimal-index + 1) c.args.decimals.now)) in
    let total = sum_at c.args.scale (map dec c.args.decimals.now) in
    let front =
    map-drop dec c.args.decimals.now c.loop-decimal.decimal-index c.decimal-item.result c.loop-decimal-test.true c.decimal-item.is in
    record {
      value = parts_moved total upper lower c.mantissa_at-mantissa.result rest c.parts-more_upper.result.0 c.parts-more_upper.result.1
          (to_z w128 (of_z w128 (upper +ℤ to_z w128 (of_z w128 c.parts-more_upper.result.0))))
          (to_z w128 (of_z w128 (lower +ℤ to_z w128 (of_z w128 c.parts-more_upper.result.1))))
          (c.loop-decimal.invariant.value
          ∙ ap (λ ds. upper *ℤ pos (2 ^ 62) +ℤ lower +ℤ sum_at c.args.scale ds) front
          ∙ ap (λ m. upper *ℤ pos (2 ^ 62) +ℤ lower +ℤ (m +ℤ rest)) (sym c.mantissa_at-mantissa.ensures.value))
          (omega (arith, ints)) (omega (arith, ints)) (omega (arith, ints));
      upper_above = omega (arith, ints);
      upper_below = omega (arith, ints);
      lower_above = omega (arith, ints);
      lower_below = omega (arith, ints);
    }

pub returns : goal.returns
returns c =
    let upper = to_z w128 c.loop-decimal.upper-bits in
    let lower = to_z w128 c.loop-decimal.lower-bits in
    let total = sum_at c.args.scale (map dec c.args.decimals.now) in
    c.join_parts.ensures
    ∙ ap fits (parts_joined total upper lower c.parts-carry.result.0 c.parts-carry.result.1
    (to_z w128 (of_z w128 (upper +ℤ to_z w128 (of_z w128 c.parts-carry.result.0)))) (to_z w128 (of_z w128 c.parts-carry.result.1))
    (c.loop-decimal.invariant.value
    ∙ at_drop_all (λ ds. upper *ℤ pos (2 ^ 62) +ℤ lower +ℤ sum_at c.args.scale (map dec ds)) c.args.decimals.now
    c.loop-decimal.decimal-index c.loop-decimal-test.false)
    c.parts-carry.ensures.sum (omega (arith, ints)) (omega (arith, ints)))
