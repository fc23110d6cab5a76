use Rattle.std.proofs.lemmas.Result.{err_from_is_err_and}
use Rattle.liquid_error.specs.meaning.Told.{told}
use Rattle.jekyll_tags.proofs.HighlightLemmas.{block_read, options_refused, start_refused}
use Rattle.jekyll_tags.proofs.highlight.read_highlight.Goals as goal

pub returns-in_err-language : goal.returns-in_err-language
returns-in_err-language c ts at =
    let p = err_from_is_err_and c.from_residual.result c.from_residual.ensures.1 in
    rw (p.1, p.2) (start_refused ts (told c.in_err-language.field-0.0) (c.in_err-language.ensures ts at))

pub returns-in_err-read_options : goal.returns-in_err-read_options
returns-in_err-read_options c ts at =
    let one = c.in_ok-language.ensures ts at in
    let p = err_from_is_err_and c.from_residual-in_err-read_options.result c.from_residual-in_err-read_options.ensures.1 in
    rw (p.1, p.2) (options_refused ts _ one.0 one.1 (told c.in_err-read_options.field-0.0)
    (c.in_err-read_options.ensures one.0 one.2))

pub returns : goal.returns
returns c ts at =
    let one = c.in_ok-language.ensures ts at in
    block_read ts _ one.0 one.1 _ (c.in_ok-read_options.ensures one.0 one.2)
