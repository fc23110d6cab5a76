use Rattle.std.proofs.lemmas.Result.{err_from_is_err_and}
use Rattle.liquid_pages.proofs.PageLemmas.{nodes_over, refused_alike}
use Rattle.liquid_pages.proofs.rendering.render_text.Goals as goal

pub returns-clause-renders : goal.returns-clause-renders
returns-clause-renders g c =
    λ answer reads. nodes_over _ _ c.args.options answer _ _ _ _ _ _
    (c.in_ok-template.ensures answer (rw c.deref.ensures reads)) c.render_template.ensures.renders

pub returns-in_err-template-clause-renders : goal.returns-in_err-template-clause-renders
returns-in_err-template-clause-renders g c = λ answer reads.
    let p = err_from_is_err_and c.from_residual.result c.from_residual.ensures.1 in
    rw (p.1, p.2) (refused_alike _ _ c.args.options answer _ _ _ c.in_err-template.field-0.0
    (c.in_err-template.ensures answer (rw c.deref.ensures reads)))
