use Rattle.std.proofs.Common.{sym, arith}
use Rattle.liquid_value.proofs.Sizes.{items_facing_uneven}
use Rattle.liquid_value.proofs.loose.+loose.Goals as goal

pub items_face-returns-then-len : goal.items_face-returns-then-len
items_face-returns-then-len t c = sym (items_facing_uneven _ _ _ (λ even. omega (arith, even)))
