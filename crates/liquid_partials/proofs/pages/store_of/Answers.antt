use Rattle.std.proofs.Common.{rules}
use Rattle.liquid_partials.proofs.PageLemmas.{compiled_alike}
use Rattle.liquid_partials.proofs.pages.store_of.Goals as goal

pub returns : goal.returns
returns g c = compiled_alike _ _ _ _ _ (search rules) (search rules) c.in_ok-compile.ensures.compiled
