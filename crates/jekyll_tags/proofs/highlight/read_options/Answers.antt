use Rattle.std.proofs.Common.{false}
use Rattle.std.proofs.lemmas.Result.{err_from_is_err_and}
use Rattle.liquid_error.specs.meaning.Told.{told}
use Rattle.jekyll_tags.specs.meaning.HighlightsGiven.{options_from}
use Rattle.jekyll_tags.proofs.HighlightLemmas.{all_read, option_read, option_refused}
use Rattle.jekyll_tags.proofs.highlight.read_options.Goals as goal

pub options-preserved : goal.options-preserved
options-preserved c ts at =
    let so_far = c.options.invariant ts at in
    let given = c.in-Some.ensures.value so_far.0 so_far.1 in
    let taken = c.in_ok-named.ensures.value given.0.0 given.2.token_is given.0.1 given.2.left in (
      taken.0,
      taken.2,
      option_read c.options.is_named so_far.0 (options_from false ts.left) so_far.2 given.0 given.1 _ taken.0 taken.1,
    )

pub returns-in_err-named : goal.returns-in_err-named
returns-in_err-named c ts at =
    let so_far = c.options.invariant ts at in
    let given = c.in-Some.ensures.value so_far.0 so_far.1 in
    let p = err_from_is_err_and c.from_residual.result c.from_residual.ensures.1 in
    rw (p.1, p.2) (option_refused c.options.is_named so_far.0 (options_from false ts.left) so_far.2 given.0 given.1
    (told c.in_err-named.field-0.0) (c.in_err-named.ensures.value given.0.0 given.2.token_is given.0.1 given.2.left))

pub returns : goal.returns
returns c ts at =
    let so_far = c.options.invariant ts at in
    all_read c.options.is_named so_far.0 (options_from false ts.left) so_far.2 (c.in_default.ensures.value so_far.0 so_far.1).0
