use Rattle.std.proofs.Common.{Ok, Err}
use Rattle.std.proofs.lemmas.Result.{err_from_is_err_and}
use Rattle.liquid_std.proofs.CycleLemmas.{value_read, named_read, values_refused, name_refused}
use Rattle.liquid_std.proofs.cycle.read_named.Goals as goal

pub returns : goal.returns
returns c = λ t is ts are.
    named_read t ts _ _ (value_read t _ c.in_ok-expect_value.field-0 (Ok c.in_ok-name.name) is
    (c.in_ok-expect_value.ensures t is) c.in_ok-name.ensures) (c.in_ok-values.ensures ts are)

pub returns-in_err-values : goal.returns-in_err-values
returns-in_err-values c = λ t is ts are.
    let p = err_from_is_err_and c.from_residual-in_err-values.result c.from_residual-in_err-values.ensures.1 in
    rw (p.1, p.2) (values_refused t ts _ _ (value_read t _ c.in_ok-expect_value.field-0 (Ok c.in_ok-name.name) is
    (c.in_ok-expect_value.ensures t is) c.in_ok-name.ensures) (c.in_err-values.ensures ts are))

pub returns-in_err-name : goal.returns-in_err-name
returns-in_err-name c = λ t is ts are.
    let p = err_from_is_err_and c.from_residual-in_err-name.result c.from_residual-in_err-name.ensures.1 in
    rw (p.1, p.2) (name_refused t ts _ (value_read t _ c.in_ok-expect_value.field-0 (Err c.in_err-name.field-0.0) is
    (c.in_ok-expect_value.ensures t is) c.in_err-name.ensures))
