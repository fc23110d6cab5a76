use Rattle.std.proofs.lemmas.Result.{err_from_is_err_and}
use Rattle.liquid_partials.proofs.RenderedLemmas.{RenderedBy-read, RenderedBy-refused}
use Rattle.example_shop.proofs.pages.Shop.write_sandboxed.Goals as goal

pub returns-clause-shown : goal.returns-clause-shown
returns-clause-shown g c = λ answer reads.
    RenderedBy-read _ answer _ _ _ _ _ _ (c.in_ok-parse.ensures.only answer (rw c.deref.ensures reads))
    (rw c.new-page.ensures at c.render_sandboxed.ensures.sandboxed.renders)

pub returns-in_err-parse-clause-shown : goal.returns-in_err-parse-clause-shown
returns-in_err-parse-clause-shown g c = λ answer reads.
    let p = err_from_is_err_and c.from_residual.result c.from_residual.ensures.1 in
    rw (p.1, p.2) (RenderedBy-refused _ answer _ _ c.in_err-parse.field-0.0 (c.in_err-parse.ensures.only answer (rw c.deref.ensures reads)))
