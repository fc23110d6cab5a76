use Rattle.std.proofs.Common.{ap, sym, ◌∙◌}
use Rattle.std.proofs.lemmas.Result.{err_from_is_err_and}
use Rattle.liquid_error.specs.meaning.Told.{told}
use Rattle.liquid_std.specs.meaning.iteration.Options.{options_of}
use Rattle.liquid_std.specs.meaning.iteration.OptionsGiven.{option_named}
use Rattle.liquid_std.proofs.OptionLemmas.{all_read, comma_passed, comma_refused, option_read, option_refused}
use Rattle.liquid_std.proofs.iteration.read_loop.read_options.Goals as goal

pub options-preserved : goal.options-preserved
options-preserved c ts at =
    let so_far = c.options.invariant ts at in
    let given = c.in-Some.ensures.value so_far.0 so_far.1 in
    let fails =
    ap (option_named c.args.block (options_of c.options.options)) (sym (c.as_str.ensures given.0.0 given.2.token_is))
    ∙ sym c.in-None.ensures in (
      given.0.1,
      given.2.left,
      comma_passed c.args.block (options_of c.options.options) so_far.0.left given.0 _ _ so_far.2 given.1 fails
          (c.in_ok-expect_comma-in-None.ensures given.0.0 given.2.token_is),
    )

pub options-preserved-in-Continue-1 : goal.options-preserved-in-Continue-1
options-preserved-in-Continue-1 c ts at =
    let so_far = c.options.invariant ts at in
    let given = c.in-Some.ensures.value so_far.0 so_far.1 in
    let fits =
    ap (option_named c.args.block (options_of c.options.options)) (sym (c.as_str.ensures given.0.0 given.2.token_is))
    ∙ sym c.in-Some-find_option.ensures in
    let taken = c.in_ok-take_option-in-Some-find_option.ensures.value given.0.1 given.2.left in (
      taken.0,
      taken.2,
      option_read c.args.block (options_of c.options.options) _ so_far.0.left given.0 c.in-Some-find_option.option taken.0
          _ so_far.2 given.1 fits taken.1,
    )

pub returns-in_err-take_option-in-Some-find_option : goal.returns-in_err-take_option-in-Some-find_option
returns-in_err-take_option-in-Some-find_option c ts at =
    let so_far = c.options.invariant ts at in
    let given = c.in-Some.ensures.value so_far.0 so_far.1 in
    let fits =
    ap (option_named c.args.block (options_of c.options.options)) (sym (c.as_str.ensures given.0.0 given.2.token_is))
    ∙ sym c.in-Some-find_option.ensures in
    let p = err_from_is_err_and c.from_residual.result c.from_residual.ensures.1 in
    rw (p.1, p.2) (option_refused c.args.block (options_of c.options.options) so_far.0.left given.0 c.in-Some-find_option.option
    (told c.in_err-take_option-in-Some-find_option.field-0.0) _
    so_far.2 given.1 fits (c.in_err-take_option-in-Some-find_option.ensures.value given.0.1 given.2.left))

pub returns-in_err-expect_comma-in-None : goal.returns-in_err-expect_comma-in-None
returns-in_err-expect_comma-in-None c ts at =
    let so_far = c.options.invariant ts at in
    let given = c.in-Some.ensures.value so_far.0 so_far.1 in
    let fails =
    ap (option_named c.args.block (options_of c.options.options)) (sym (c.as_str.ensures given.0.0 given.2.token_is))
    ∙ sym c.in-None.ensures in
    let p = err_from_is_err_and c.from_residual-in_err-expect_comma-in-None.result c.from_residual-in_err-expect_comma-in-None.ensures.1 in
    rw (p.1, p.2) (comma_refused c.args.block (options_of c.options.options) so_far.0.left given.0
    (told c.in_err-expect_comma-in-None.field-0.0) _
    so_far.2 given.1 fails (c.in_err-expect_comma-in-None.ensures given.0.0 given.2.token_is))

pub returns : goal.returns
returns c ts at =
    let so_far = c.options.invariant ts at in
    all_read c.args.block (options_of c.options.options) so_far.0.left _ so_far.2 (c.in_default.ensures.value so_far.0 so_far.1).0
