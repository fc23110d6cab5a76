use Rattle.std.proofs.Common.{rules, refl}
use Rattle.liquid_error.specs.declared.error.Error.{the_lemmas}
use Rattle.example_shop.proofs.PageLemmas.{no_review, reviewed}
use Rattle.example_shop.proofs.pages.write_review.Goals as goal

pub returns-in-Ok-write_sandboxed-clause-shown : goal.returns-in-Ok-write_sandboxed-clause-shown
returns-in-Ok-write_sandboxed-clause-shown g c =
    reviewed _ _ _ _ _ _ _ _ _ _ _ _ c.in-Ok.ensures c.in-Ok-write_sandboxed.ensures.shown (refl, (refl, refl))

pub returns-in-Err-write_sandboxed-clause-shown : goal.returns-in-Err-write_sandboxed-clause-shown
returns-in-Err-write_sandboxed-clause-shown g c =
    reviewed _ _ _ _ _ _ _ _ _ _ _ _ c.in-Ok.ensures c.in-Err-write_sandboxed.ensures.shown
    (rw (c.in-Err-write_sandboxed.ensures.language, c.in-Err-write_sandboxed.ensures.partials) at c.write_refusal.ensures.shown)

pub returns-in-Err-clause-shown : goal.returns-in-Err-clause-shown
returns-in-Err-clause-shown g c = no_review _ _ _ _ _ _ (search (rules, the_lemmas))
