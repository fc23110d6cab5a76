use Rattle.liquid_plugins.specs.meaning.ExpressionOf.{expression_of}
use Rattle.liquid_std.specs.meaning.iteration.Options.{options_of}
use Rattle.liquid_std.proofs.OptionLemmas.{cols_given, limit_given, offset_given}
use Rattle.liquid_std.proofs.iteration.read_loop.take_option.Goals as goal

pub returns-in_ok-next_argument-in-Offset-clause-value : goal.returns-in_ok-next_argument-in-Offset-clause-value
returns-in_ok-next_argument-in-Offset-clause-value c ts at =
    let taken = c.in_ok-next_argument-in-Offset.ensures.value ts at in (
      taken.0,
      offset_given c.args.option (options_of c.args.options.now) ts taken.0
          (expression_of c.in_ok-next_argument-in-Offset.field-0) c.in-Offset.is taken.1,
      taken.2,
    )

pub returns-in_ok-next_argument-in-Limit-clause-value : goal.returns-in_ok-next_argument-in-Limit-clause-value
returns-in_ok-next_argument-in-Limit-clause-value c ts at =
    let taken = c.in_ok-next_argument-in-Limit.ensures.value ts at in (
      taken.0,
      limit_given c.args.option (options_of c.args.options.now) ts taken.0
          (expression_of c.in_ok-next_argument-in-Limit.field-0) c.in-Limit.is taken.1,
      taken.2,
    )

pub returns-in_ok-next_argument-in-Cols-clause-value : goal.returns-in_ok-next_argument-in-Cols-clause-value
returns-in_ok-next_argument-in-Cols-clause-value c ts at =
    let taken = c.in_ok-next_argument-in-Cols.ensures.value ts at in (
      taken.0,
      cols_given c.args.option (options_of c.args.options.now) ts taken.0
          (expression_of c.in_ok-next_argument-in-Cols.field-0) c.in-Cols.is taken.1,
      taken.2,
    )
