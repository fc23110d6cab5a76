use Rattle.std.proofs.Common.{ap, option_map, rules}
use Rattle.liquid_pages.proofs.PageLemmas.{found_in}
use Rattle.liquid_pages.proofs.rendering.store_of.Goals as goal

pub returns-in_ok-compile-in-Some : goal.returns-in_ok-compile-in-Some
returns-in_ok-compile-in-Some g c =
    found_in _ _ _ _ _ _ (ap (option_map _) c.in-Some.is) (search rules) (search rules) c.in_ok-compile-in-Some.ensures.compiled
