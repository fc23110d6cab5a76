use Rattle.std.proofs.Common.{refl}
use Rattle.std.proofs.lemmas.Result.{err_from_is_err_and}
use Rattle.liquid_template.proofs.Sandboxing.{sandboxed_memory, sandboxed_renders, untouched_still, untouched_after}
use Rattle.liquid_template.proofs.template.Template.render_sandboxed_out.Goals as goal

pub returns-in_err-name-clause-renders : goal.returns-in_err-name-clause-renders
returns-in_err-name-clause-renders g c =
    let p = err_from_is_err_and c.from_residual.result c.from_residual.ensures.1 in
    rw p.1 (sandboxed_memory _ g.met.T.Discreet.hides g.met.B.Discreet.hides _ _ _ _ _ _ p.2).renders

pub returns-in_err-name-clause-isolated : goal.returns-in_err-name-clause-isolated
returns-in_err-name-clause-isolated g c =
    let p = err_from_is_err_and c.from_residual.result c.from_residual.ensures.1 in
    rw p.1 (sandboxed_memory _ g.met.T.Discreet.hides g.met.B.Discreet.hides _ _ _ _ _ _ p.2).isolated

pub returns-in_err-push-clause-renders : goal.returns-in_err-push-clause-renders
returns-in_err-push-clause-renders g c =
    let p = err_from_is_err_and c.from_residual-in_err-push.result c.from_residual-in_err-push.ensures.1 in
    rw (p.1, p.2, c.in_err-push.ensures.unchanged) (sandboxed_memory _ g.met.T.Discreet.hides g.met.B.Discreet.hides _ _ _ _ _ _
    c.in_err-push.ensures.err).renders

pub returns-in_err-push-clause-isolated : goal.returns-in_err-push-clause-isolated
returns-in_err-push-clause-isolated g c =
    let p = err_from_is_err_and c.from_residual-in_err-push.result c.from_residual-in_err-push.ensures.1 in
    rw (p.1, p.2, c.in_err-push.ensures.unchanged) (sandboxed_memory _ g.met.T.Discreet.hides g.met.B.Discreet.hides _ _ _ _ _ _
    c.in_err-push.ensures.err).isolated

pub returns-clause-renders : goal.returns-clause-renders
returns-clause-renders g c =
    (sandboxed_renders _ g.met.T.Discreet.hides g.met.B.Discreet.hides _ _ _ _ _ _ _ _ _ _ _ _ _ _ _
    c.in_ok-name.ensures c.in_ok-push.ensures.ok c.in_ok-push.ensures.opens c.render_out-answer.ensures.owes c.pop.ensures.ends
    (rw c.in_ok-push.ensures.store at c.render_out-answer.ensures.renders)).renders

pub returns-clause-isolated : goal.returns-clause-isolated
returns-clause-isolated g c =
    (sandboxed_renders _ g.met.T.Discreet.hides g.met.B.Discreet.hides _ _ _ _ _ _ _ _ _ _ _ _ _ _ _
    c.in_ok-name.ensures c.in_ok-push.ensures.ok c.in_ok-push.ensures.opens c.render_out-answer.ensures.owes c.pop.ensures.ends
    (rw c.in_ok-push.ensures.store at c.render_out-answer.ensures.renders)).isolated

pub returns-in_err-name-clause-untouched : goal.returns-in_err-name-clause-untouched
returns-in_err-name-clause-untouched g c = untouched_still _ _ refl

pub returns-in_err-push-clause-untouched : goal.returns-in_err-push-clause-untouched
returns-in_err-push-clause-untouched g c = untouched_still _ _ c.in_err-push.ensures.unchanged

pub returns-clause-untouched : goal.returns-clause-untouched
returns-clause-untouched g c = untouched_after _ _ _ _ _ _ _ c.in_ok-push.ensures.opens c.render_out-answer.ensures.owes c.pop.ensures.ends
