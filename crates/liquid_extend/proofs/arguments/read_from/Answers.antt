use Rattle.std.proofs.lemmas.Result.{err_from_is_err_and}
use Rattle.liquid_error.specs.meaning.Told.{told}
use Rattle.liquid_plugins.specs.meaning.ArgumentsOf.{arguments_of}
use Rattle.liquid_extend.specs.meaning.Arguments.{arguments_from}
use Rattle.liquid_extend.specs.steps.Reading.{argument_of}
use Rattle.liquid_extend.proofs.ArgumentLemmas.{all_read, argument_read, argument_refused, first_refused}
use Rattle.liquid_extend.proofs.arguments.read_from.Goals as goal

pub arguments-preserved : goal.arguments-preserved
arguments-preserved c ts at =
    let so_far = c.arguments.invariant ts at in
    let given = c.in-Some.ensures.value so_far.0 so_far.1 in
    let first = c.in_ok-first.ensures.value given.0.0 given.2.token_is given.0.1 given.2.left in
    let taken = c.in_ok-argument.ensures.value first.0.0 first.2.token_is first.0.1 first.2.left in (
      taken.0,
      taken.2,
      argument_read c.args.takes_values (arguments_of c.arguments.arguments) _ so_far.0.left given.0 first.0
          (argument_of c.in_ok-argument.argument) taken.0 (arguments_from c.args.takes_values ts.left)
          so_far.2 given.1 first.1 taken.1 c.in_ok-add_argument.ensures,
    )

pub returns-in_err-argument : goal.returns-in_err-argument
returns-in_err-argument c ts at =
    let so_far = c.arguments.invariant ts at in
    let given = c.in-Some.ensures.value so_far.0 so_far.1 in
    let first = c.in_ok-first.ensures.value given.0.0 given.2.token_is given.0.1 given.2.left in
    let p = err_from_is_err_and c.from_residual-in_err-argument.result c.from_residual-in_err-argument.ensures.1 in
    rw (p.1, p.2) (argument_refused c.args.takes_values (arguments_of c.arguments.arguments) so_far.0.left given.0 first.0
    (told c.in_err-argument.field-0.0) (arguments_from c.args.takes_values ts.left)
    so_far.2 given.1 first.1 (c.in_err-argument.ensures.value first.0.0 first.2.token_is first.0.1 first.2.left))

pub returns-in_err-first : goal.returns-in_err-first
returns-in_err-first c ts at =
    let so_far = c.arguments.invariant ts at in
    let given = c.in-Some.ensures.value so_far.0 so_far.1 in
    let p = err_from_is_err_and c.from_residual.result c.from_residual.ensures.1 in
    rw (p.1, p.2) (first_refused c.args.takes_values (arguments_of c.arguments.arguments) so_far.0.left given.0
    (told c.in_err-first.field-0.0) (arguments_from c.args.takes_values ts.left)
    so_far.2 given.1 (c.in_err-first.ensures.value given.0.0 given.2.token_is given.0.1 given.2.left).0)

pub returns : goal.returns
returns c ts at =
    let so_far = c.arguments.invariant ts at in
    all_read c.args.takes_values (arguments_of c.arguments.arguments) so_far.0.left (arguments_from c.args.takes_values ts.left) so_far.2
    (c.in_default.ensures.value so_far.0 so_far.1).0
