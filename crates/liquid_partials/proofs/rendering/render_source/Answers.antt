use Rattle.std.proofs.Common.{refl, Err}
use Rattle.std.proofs.lemmas.Result.{err_from_is_err_and}
use Rattle.liquid_template.proofs.Pouring.{pours_refused}
use Rattle.liquid_partials.proofs.RenderedLemmas.{RenderedBy-read, RenderedBy-refused}
use Rattle.liquid_partials.proofs.rendering.render_source.Goals as goal

pub returns-in_err-nodes-clause-rendered : goal.returns-in_err-nodes-clause-rendered
returns-in_err-nodes-clause-rendered g c =
    let p = err_from_is_err_and c.from_residual.result c.from_residual.ensures.1 in
    rw (p.1, p.2) (λ answer reads. RenderedBy-refused _ answer _ _ c.in_err-nodes.field-0.0 (c.in_err-nodes.ensures.only answer reads))

pub returns-clause-rendered : goal.returns-clause-rendered
returns-clause-rendered g c =
    λ answer reads. RenderedBy-read _ answer _ _ _ _ _ _ (c.in_ok-nodes.ensures.only answer reads)
    (rw (c.new.ensures) at c.render_to.ensures.renders)

pub returns-clause-pours : goal.returns-clause-pours
returns-clause-pours g c = c.render_to.ensures.renders.pours

pub returns-in_err-nodes-clause-pours : goal.returns-in_err-nodes-clause-pours
returns-in_err-nodes-clause-pours g c =
    let p = err_from_is_err_and c.from_residual.result c.from_residual.ensures.1 in
    rw (p.1, p.2) (pours_refused _ c.in_err-nodes.field-0.0)

pub returns-in_err-nodes-clause-untouched : goal.returns-in_err-nodes-clause-untouched
returns-in_err-nodes-clause-untouched g c = λ refusal reads. refl

pub returns-clause-untouched : goal.returns-clause-untouched
returns-clause-untouched g c = λ refusal reads. cc (c.in_ok-nodes.ensures.only (Err refusal) reads)
