use Rattle.std.proofs.Common.{sym, arith}
use Rattle.liquid_value.proofs.Sizes.{same_items_uneven}
use Rattle.liquid_value.proofs.strict.+same.Goals as goal

pub same_items-returns-then-len : goal.same_items-returns-then-len
same_items-returns-then-len t c = sym (same_items_uneven _ _ (λ even. omega (arith, even)))
