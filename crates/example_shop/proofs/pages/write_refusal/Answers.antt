use Rattle.std.proofs.Common.{rules}
use Rattle.liquid_error.specs.declared.error.Error.{the_lemmas}
use Rattle.example_shop.proofs.PageLemmas.{nothing_shown, same_names}
use Rattle.example_shop.proofs.pages.write_refusal.Goals as goal

pub returns-in-Ok-clause-shown : goal.returns-in-Ok-clause-shown
returns-in-Ok-clause-shown g c = same_names _ _ _ _ _ _ _ _ _ _ c.in-Ok.ensures c.write_sandboxed.ensures.shown

pub returns-in-Err-clause-shown : goal.returns-in-Err-clause-shown
returns-in-Err-clause-shown g c = nothing_shown _ _ _ _ _ _ _ (search (rules, the_lemmas))
