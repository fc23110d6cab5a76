use Rattle.std.proofs.lemmas.Result.{err_from_is_err_and}
use Rattle.liquid_error.specs.meaning.Told.{told}
use Rattle.liquid_parser.specs.meaning.Cursors.{expect_str}
use Rattle.liquid_parser.proofs.NextLemmas.{next_taken, next_refused, none_given}
use Rattle.liquid_parser.proofs.cursor.tokens.TagTokenIter.next_str.Goals as goal

pub returns-clause-value : goal.returns-clause-value
returns-clause-value c ts at =
    next_taken (λ u. u) (expect_str c.args.expected.now) c.args.message.now ts c.in_ok-token.token c.expect_next.new.self
    c.expect_str.result tt
    (c.in_ok-token.ensures.value ts at) c.expect_str.ensures c.in_ok-into_result.ensures

pub returns-in_err-into_result-clause-value : goal.returns-in_err-into_result-clause-value
returns-in_err-into_result-clause-value c ts at =
    let p = err_from_is_err_and c.from_residual-in_err-into_result.result c.from_residual-in_err-into_result.ensures.1 in
    rw (p.1, p.2) (next_refused (λ u. u) (expect_str c.args.expected.now) c.args.message.now ts c.in_ok-token.token c.expect_next.new.self
    c.expect_str.result (told c.in_err-into_result.field-0.0)
    (c.in_ok-token.ensures.value ts at) c.expect_str.ensures c.in_err-into_result.ensures)

pub returns-in_err-token-clause-value : goal.returns-in_err-token-clause-value
returns-in_err-token-clause-value c ts at =
    let p = err_from_is_err_and c.from_residual.result c.from_residual.ensures.1 in
    rw (p.1, p.2) (none_given (λ u. u) (expect_str c.args.expected.now) c.args.message.now ts c.expect_next.new.self
    c.in_err-token.field-0.0 (c.in_err-token.ensures.value ts at))
