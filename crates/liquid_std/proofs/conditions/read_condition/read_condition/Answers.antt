use Rattle.std.proofs.Common.{sym, subst}
use Rattle.std.proofs.lemmas.Result.{err_from_is_err_and}
use Rattle.liquid_error.specs.meaning.Told.{told, Gives}
use Rattle.liquid_std.specs.meaning.conditions.Conditions.{condition_of, test_of}
use Rattle.liquid_std.proofs.ReadLemmas.{condition_goes_on, condition_refused}
use Rattle.liquid_std.proofs.conditions.read_condition.read_condition.Goals as goal

pub returns : goal.returns
returns c ts at =
    let taken = c.in_ok-first.ensures.value ts at in
    subst (λ m. Gives condition_of c.read_joined.result m) (sym (condition_goes_on ts taken.0 (test_of c.in_ok-first.first) taken.1))
    (c.read_joined.ensures taken.0 taken.2)

pub returns-in_err-first : goal.returns-in_err-first
returns-in_err-first c ts at =
    let p = err_from_is_err_and c.from_residual.result c.from_residual.ensures.1 in
    rw (p.1, p.2) (condition_refused ts (told c.in_err-first.field-0.0) (c.in_err-first.ensures.value ts at))
