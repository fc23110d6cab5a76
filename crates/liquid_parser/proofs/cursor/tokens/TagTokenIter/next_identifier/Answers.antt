use Rattle.std.proofs.Common.{Bor, List, ℕ}
use Rattle.std.proofs.lemmas.Result.{err_from_is_err_and}
use Rattle.liquid_error.specs.meaning.Told.{told}
use Rattle.liquid_parser.specs.meaning.Handed.{expect_identifier}
use Rattle.liquid_parser.proofs.NextLemmas.{next_taken, next_refused, none_given}
use Rattle.liquid_parser.proofs.cursor.tokens.TagTokenIter.next_identifier.Goals as goal

pub returns-clause-value : goal.returns-clause-value
returns-clause-value c ts at =
    next_taken (λ (name : Bor (List ℕ)). name.now) expect_identifier c.args.message.now ts c.in_ok-token.token c.expect_next.new.self
    c.expect_identifier.result c.in_ok-name.name
    (c.in_ok-token.ensures.value ts at) c.expect_identifier.ensures c.in_ok-name.ensures

pub returns-in_err-name-clause-value : goal.returns-in_err-name-clause-value
returns-in_err-name-clause-value c ts at =
    let p = err_from_is_err_and c.from_residual-in_err-name.result c.from_residual-in_err-name.ensures.1 in
    rw (p.1, p.2) (next_refused (λ (name : Bor (List ℕ)). name.now) expect_identifier c.args.message.now ts c.in_ok-token.token
    c.expect_next.new.self c.expect_identifier.result (told c.in_err-name.field-0.0)
    (c.in_ok-token.ensures.value ts at) c.expect_identifier.ensures c.in_err-name.ensures)

pub returns-in_err-token-clause-value : goal.returns-in_err-token-clause-value
returns-in_err-token-clause-value c ts at =
    let p = err_from_is_err_and c.from_residual.result c.from_residual.ensures.1 in
    rw (p.1, p.2) (none_given (λ (name : Bor (List ℕ)). name.now) expect_identifier c.args.message.now ts c.expect_next.new.self
    c.in_err-token.field-0.0 (c.in_err-token.ensures.value ts at))
