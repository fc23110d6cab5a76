use Rattle.std.proofs.lemmas.Result.{err_from_is_err_and}
use Rattle.liquid_error.specs.meaning.Told.{told}
use Rattle.liquid_plugins.specs.meaning.ExpressionOf.{expression_of}
use Rattle.liquid_parser.specs.meaning.Handed.{expect_value}
use Rattle.liquid_parser.proofs.NextLemmas.{next_taken, next_refused, none_given}
use Rattle.liquid_parser.proofs.cursor.tokens.TagTokenIter.next_value.Goals as goal

pub returns-clause-value : goal.returns-clause-value
returns-clause-value c ts at =
    next_taken expression_of expect_value c.args.message.now ts c.in_ok-token.token c.expect_next.new.self c.in_ok-expect_value.field-0
    c.in_ok-value.value
    (c.in_ok-token.ensures.value ts at) c.in_ok-expect_value.ensures c.in_ok-value.ensures

pub returns-in_err-value-clause-value : goal.returns-in_err-value-clause-value
returns-in_err-value-clause-value c ts at =
    let p = err_from_is_err_and c.from_residual-in_err-value.result c.from_residual-in_err-value.ensures.1 in
    rw (p.1, p.2) (next_refused expression_of expect_value c.args.message.now ts c.in_ok-token.token c.expect_next.new.self
    c.in_ok-expect_value.field-0 (told c.in_err-value.field-0.0)
    (c.in_ok-token.ensures.value ts at) c.in_ok-expect_value.ensures c.in_err-value.ensures)

pub returns-in_err-token-clause-value : goal.returns-in_err-token-clause-value
returns-in_err-token-clause-value c ts at =
    let p = err_from_is_err_and c.from_residual.result c.from_residual.ensures.1 in
    rw (p.1, p.2) (none_given expression_of expect_value c.args.message.now ts c.expect_next.new.self c.in_err-token.field-0.0
    (c.in_err-token.ensures.value ts at))
