use Rattle.std.proofs.Common.{refl}
use Rattle.std.proofs.lemmas.Result.{err_from_is_err_and}
use Rattle.liquid_template.proofs.IsolatedFrames.{isolated_memory, isolated_renders, kept_still, kept_after}
use Rattle.liquid_template.proofs.template.Template.render_isolated_out.Goals as goal

pub returns-in_err-name-clause-renders : goal.returns-in_err-name-clause-renders
returns-in_err-name-clause-renders g c =
    let p = err_from_is_err_and c.from_residual.result c.from_residual.ensures.1 in
    rw p.1 (isolated_memory _ _ _ _ _ _ _ p.2).renders

pub returns-in_err-name-clause-isolated : goal.returns-in_err-name-clause-isolated
returns-in_err-name-clause-isolated g c =
    let p = err_from_is_err_and c.from_residual.result c.from_residual.ensures.1 in
    rw p.1 (isolated_memory _ _ _ _ _ _ _ p.2).isolated

pub returns-in_err-push-clause-renders : goal.returns-in_err-push-clause-renders
returns-in_err-push-clause-renders g c =
    let p = err_from_is_err_and c.from_residual-in_err-push.result c.from_residual-in_err-push.ensures.1 in
    rw (p.1, p.2, c.in_err-push.ensures.unchanged) (isolated_memory _ _ _ _ _ _ _ c.in_err-push.ensures.err).renders

pub returns-in_err-push-clause-isolated : goal.returns-in_err-push-clause-isolated
returns-in_err-push-clause-isolated g c =
    let p = err_from_is_err_and c.from_residual-in_err-push.result c.from_residual-in_err-push.ensures.1 in
    rw (p.1, p.2, c.in_err-push.ensures.unchanged) (isolated_memory _ _ _ _ _ _ _ c.in_err-push.ensures.err).isolated

pub returns-clause-renders : goal.returns-clause-renders
returns-clause-renders g c =
    (isolated_renders _ _ _ _ _ _ _ _ _ _ _ _ _ _ _ _
    c.in_ok-name.ensures c.in_ok-push.ensures.ok c.in_ok-push.ensures.opens c.render_out-answer.ensures.owes c.pop.ensures.ends
    (rw c.in_ok-push.ensures.store at c.render_out-answer.ensures.renders)).renders

pub returns-clause-isolated : goal.returns-clause-isolated
returns-clause-isolated g c =
    (isolated_renders _ _ _ _ _ _ _ _ _ _ _ _ _ _ _ _
    c.in_ok-name.ensures c.in_ok-push.ensures.ok c.in_ok-push.ensures.opens c.render_out-answer.ensures.owes c.pop.ensures.ends
    (rw c.in_ok-push.ensures.store at c.render_out-answer.ensures.renders)).isolated

pub returns-in_err-name-clause-kept : goal.returns-in_err-name-clause-kept
returns-in_err-name-clause-kept g c = kept_still _ _ refl

pub returns-in_err-push-clause-kept : goal.returns-in_err-push-clause-kept
returns-in_err-push-clause-kept g c = kept_still _ _ c.in_err-push.ensures.unchanged

pub returns-clause-kept : goal.returns-clause-kept
returns-clause-kept g c =
    let v = g.S.Runtime.view c.args.scopes.now in
    kept_after v _ _ _ _ _ _ c.in_ok-push.ensures.opens c.render_out-answer.ensures.owes c.pop.ensures.ends
    (isolated_renders _ _ _ _ _ v _ _ _ _ _ _ _ _ _ _
    c.in_ok-name.ensures c.in_ok-push.ensures.ok c.in_ok-push.ensures.opens c.render_out-answer.ensures.owes c.pop.ensures.ends
    (rw c.in_ok-push.ensures.store at c.render_out-answer.ensures.renders)).renders.frames
