use Rattle.std.proofs.Common.{sym, arith}
use Rattle.liquid_plugins.proofs.Uneven.{same_uneven}
use Rattle.liquid_plugins.proofs.same.+same.Goals as goal

pub same_indexes-returns-then-len : goal.same_indexes-returns-then-len
same_indexes-returns-then-len t c = sym (same_uneven _ _ (λ even. omega (arith, even)))
