use Rattle.std.proofs.lemmas.Result.{err_from_is_err_and}
use Rattle.liquid_error.specs.meaning.Told.{told}
use Rattle.liquid_parser.specs.meaning.Handed.{expect_identifier}
use Rattle.liquid_extend.proofs.ArgumentLemmas.{name_refused, pair_taken, pair_value_refused, sign_refused}
use Rattle.liquid_parser.proofs.NextLemmas.{token_taken, token_refused}
use Rattle.liquid_extend.proofs.arguments.read_pair.Goals as goal

pub returns-clause-value : goal.returns-clause-value
returns-clause-value c t is ts at =
    let name =
    token_taken (λ n. n.now) expect_identifier t c.args.first c.expect_identifier.result c.in_ok-name.name is
    (c.expect_identifier.ensures t is) c.in_ok-name.ensures in
    let sign = c.in_ok-next_str.ensures.value ts at in
    let value = c.in_ok-value.ensures.value sign.0 sign.2 in
    (value.0, pair_taken t ts _ _ sign.0 value.0 _ name sign.1 value.1, value.2)

pub returns-in_err-name-clause-value : goal.returns-in_err-name-clause-value
returns-in_err-name-clause-value c t is ts at =
    let p = err_from_is_err_and c.from_residual.result c.from_residual.ensures.1 in
    rw (p.1, p.2) (name_refused t ts (told c.in_err-name.field-0.0) (token_refused (λ n. n.now) expect_identifier t c.args.first
    c.expect_identifier.result (told c.in_err-name.field-0.0) is (c.expect_identifier.ensures t is) c.in_err-name.ensures))

pub returns-in_err-next_str-clause-value : goal.returns-in_err-next_str-clause-value
returns-in_err-next_str-clause-value c t is ts at =
    let name =
    token_taken (λ n. n.now) expect_identifier t c.args.first c.expect_identifier.result c.in_ok-name.name is
    (c.expect_identifier.ensures t is) c.in_ok-name.ensures in
    let p = err_from_is_err_and c.from_residual-in_err-next_str.result c.from_residual-in_err-next_str.ensures.1 in
    rw (p.1, p.2) (sign_refused t ts _ (told c.in_err-next_str.field-0.0) name (c.in_err-next_str.ensures.value ts at))

pub returns-in_err-value-clause-value : goal.returns-in_err-value-clause-value
returns-in_err-value-clause-value c t is ts at =
    let name =
    token_taken (λ n. n.now) expect_identifier t c.args.first c.expect_identifier.result c.in_ok-name.name is
    (c.expect_identifier.ensures t is) c.in_ok-name.ensures in
    let sign = c.in_ok-next_str.ensures.value ts at in
    let p = err_from_is_err_and c.from_residual-in_err-value.result c.from_residual-in_err-value.ensures.1 in
    rw (p.1, p.2) (pair_value_refused t ts _ _ sign.0 (told c.in_err-value.field-0.0) name sign.1
    (c.in_err-value.ensures.value sign.0 sign.2))
