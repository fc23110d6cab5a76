use Rattle.std.proofs.Common.{◌≡◌, ◌<◌, length, sym, ◌∙◌, arith}
use Rattle.std.proofs.lemmas.Grind.{common_steps}
use Rattle.liquid_value.proofs.Sizes.{beginning_is_less}
use Rattle.liquid_value.proofs.order.+order.Goals as goal

pub items_cmp-returns-in-Some-get : goal.items_cmp-returns-in-Some-get
items_cmp-returns-in-Some-get t c =
    let left = c.args.left.now.items in
    let right = c.args.right.now.items in
    let at_end : c.loop-index.index ≡ length left = omega arith in
    let within : c.loop-index.index < length right = grind (arith, common_steps) in
    sym (c.loop-index.invariant ∙ beginning_is_less left right c.loop-index.index at_end within)
