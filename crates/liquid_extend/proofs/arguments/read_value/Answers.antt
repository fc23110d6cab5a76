use Rattle.std.proofs.lemmas.Result.{err_from_is_err_and}
use Rattle.liquid_error.specs.meaning.Told.{told}
use Rattle.liquid_parser.specs.meaning.Handed.{expect_value}
use Rattle.liquid_plugins.specs.meaning.ExpressionOf.{expression_of}
use Rattle.liquid_extend.proofs.ArgumentLemmas.{value_refused, value_taken}
use Rattle.liquid_parser.proofs.NextLemmas.{token_taken, token_refused}
use Rattle.liquid_extend.proofs.arguments.read_value.Goals as goal

pub returns-clause-value : goal.returns-clause-value
returns-clause-value c t is ts at = (
  ts,
  value_taken t ts _ (token_taken expression_of expect_value t c.args.first c.in_ok-expect_value.field-0 c.in_ok-value.value is
      (c.in_ok-expect_value.ensures t is) c.in_ok-value.ensures),
  at,
)

pub returns-in_err-value-clause-value : goal.returns-in_err-value-clause-value
returns-in_err-value-clause-value c t is ts at =
    let p = err_from_is_err_and c.from_residual-in_err-value.result c.from_residual-in_err-value.ensures.1 in
    rw (p.1, p.2) (value_refused t ts (told c.in_err-value.field-0.0) (token_refused expression_of expect_value t c.args.first
    c.in_ok-expect_value.field-0 (told c.in_err-value.field-0.0) is (c.in_ok-expect_value.ensures t is) c.in_err-value.ensures))
