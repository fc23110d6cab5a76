use Rattle.std.proofs.Common.{ap}
use Rattle.std.specs.Prelude.{option_map}
use Rattle.example_shop.proofs.PageLemmas.{partials_found}
use Rattle.example_shop.proofs.pages.Shop.open.Goals as goal

pub returns-clause-partials : goal.returns-clause-partials
returns-clause-partials c =
    partials_found _ _ _ (ap (option_map _) c.runtime_of-runtime.ensures.store) c.in_ok-language.ensures c.in_ok-store.ensures
