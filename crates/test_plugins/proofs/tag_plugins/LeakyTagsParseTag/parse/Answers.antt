use Rattle.std.proofs.Common.{Ok, ap}
use Rattle.std.proofs.lemmas.Result.{err_from_is_err_and}
use Rattle.liquid_error.specs.meaning.Refusal.{ok_then}
use Rattle.liquid_error.specs.meaning.Told.{told}
use Rattle.test_plugins.specs.declared.tags.LeakyTagShape.TheVariants.{Leak}
use Rattle.liquid_parser.proofs.StepLemmas.{then_refused}
use Rattle.test_plugins.proofs.tag_plugins.LeakyTagsParseTag.parse.Goals as goal

pub returns-in_ok-name-in-Leak : goal.returns-in_ok-name-in-Leak
returns-in_ok-name-in-Leak g c ts at =
    rw c.in-Leak.is (ap (λ q. ok_then q (λ given. Ok (Leak given.0 given.1))) (c.in_ok-name-in-Leak.ensures ts at))

pub returns-in_err-name-in-Leak : goal.returns-in_err-name-in-Leak
returns-in_err-name-in-Leak g c ts at =
    let p = err_from_is_err_and c.from_residual-in_err-name-in-Leak.result c.from_residual-in_err-name-in-Leak.ensures.1 in
    rw (c.in-Leak.is, p.1, p.2) (then_refused (told c.in_err-name-in-Leak.field-0.0) _ (λ given. Ok (Leak given.0 given.1))
    (c.in_err-name-in-Leak.ensures ts at))
