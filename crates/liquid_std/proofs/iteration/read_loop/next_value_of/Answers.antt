use Rattle.std.proofs.lemmas.Result.{err_from_is_err_and}
use Rattle.liquid_plugins.specs.meaning.ExpressionOf.{expression_of}
use Rattle.liquid_parser.proofs.NextLemmas.{next_given, none_given}
use Rattle.liquid_tags.specs.meaning.Asked.{token_expected}
use Rattle.liquid_std.specs.meaning.iteration.OptionsGiven.{expect_argument}
use Rattle.liquid_std.proofs.iteration.read_loop.next_value_of.Goals as goal

pub returns-clause-value : goal.returns-clause-value
returns-clause-value c ts at =
    next_given expression_of (expect_argument c.args.option) token_expected ts c.in_ok-token.token c.expect_next.new.self
    c.in_ok-expect_argument.field-0 c.into_result.result
    (c.in_ok-token.ensures.value ts at) c.in_ok-expect_argument.ensures c.into_result.ensures

pub returns-in_err-token-clause-value : goal.returns-in_err-token-clause-value
returns-in_err-token-clause-value c ts at =
    let p = err_from_is_err_and c.from_residual.result c.from_residual.ensures.1 in
    rw (p.1, p.2) (none_given expression_of (expect_argument c.args.option) token_expected ts c.expect_next.new.self
    c.in_err-token.field-0.0 (c.in_err-token.ensures.value ts at))
