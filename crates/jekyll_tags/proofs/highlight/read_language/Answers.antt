use Rattle.std.proofs.Common.{rules}
use Rattle.std.proofs.lemmas.Result.{err_from_is_err_and}
use Rattle.liquid_error.specs.meaning.Told.{told}
use Rattle.jekyll_tags.proofs.HighlightLemmas.{language_refused, language_taken}
use Rattle.jekyll_tags.proofs.highlight.read_language.Goals as goal

pub returns : goal.returns
returns c ts at =
    let one = c.in_ok-literal.ensures ts at in
    (one.0, language_taken ts _ one.0 _ one.1 (search rules), one.2)

pub returns-in_err-literal : goal.returns-in_err-literal
returns-in_err-literal c ts at =
    let p = err_from_is_err_and c.from_residual.result c.from_residual.ensures.1 in
    rw (p.1, p.2) (language_refused ts (told c.in_err-literal.field-0.0) (c.in_err-literal.ensures ts at))
