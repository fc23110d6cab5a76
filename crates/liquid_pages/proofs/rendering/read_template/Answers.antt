use Rattle.std.proofs.lemmas.Result.{err_from_is_err_and}
use Rattle.liquid_pages.proofs.rendering.read_template.Goals as goal

pub returns : goal.returns
returns g c = λ answer reads. rw c.new.ensures (c.in_ok-parse.ensures.only answer reads)

pub returns-in_err-parse : goal.returns-in_err-parse
returns-in_err-parse g c = λ answer reads.
    let p = err_from_is_err_and c.from_residual.result c.from_residual.ensures.1 in
    rw (p.1, p.2) (c.in_err-parse.ensures.only answer reads)
