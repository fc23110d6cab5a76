use Rattle.std.proofs.Common.{◌≡◌, Some, None, sym, ap, ◌∙◌}
use Rattle.liquid_std.specs.meaning.conditions.ConditionsGiven.{operator_of}
use Rattle.liquid_std.proofs.ReadLemmas.{no_operator, operator_taken}
use Rattle.liquid_std.proofs.conditions.read_condition.next_operator.Goals as goal

pub returns-clause-value : goal.returns-clause-value
returns-clause-value c ts at =
    let given = c.in_ok-token.ensures.value ts at in
    let fits = ap operator_of (sym (c.as_str.ensures given.0.0 given.2.token_is)) ∙ sym c.in_ok-operator.ensures in
    (given.0.1, operator_taken ts given.0 c.in_ok-operator.operator given.1 fits, given.2.left)

pub returns-in_err-operator-clause-value : goal.returns-in_err-operator-clause-value
returns-in_err-operator-clause-value c ts at =
    let given = c.in_ok-token.ensures.value ts at in
    let fails = ap operator_of (sym (c.as_str.ensures given.0.0 given.2.token_is)) ∙ sym c.in_err-operator.ensures in
    rw c.from_residual-in_err-operator.ensures (no_operator ts given.0 given.1 fails, at)
