use Rattle.std.proofs.Common.{sym, ap, ◌∙◌}
use Rattle.std.specs.FinMap.{get}
use Rattle.liquid_runtime.specs.meaning.LoopNames.{loop_names}
use Rattle.liquid_runtime.proofs.FrameLookups.{seal_own, seal_below}
use Rattle.liquid_scopes.specs.steps.Layers.{layer_seals}
use Rattle.liquid_scopes.specs.steps.LinkLayers.{layer_of}
use Rattle.liquid_scopes.proofs.link.Link.seals.Goals as goal

pub returns-in-Some-look : goal.returns-in-Some-look
returns-in-Some-look g c =
    let l = c.in-Loop.frame.value in
    let q = c.args.name.now in
    sym (ap (λ k. layer_seals (layer_of k) q c.args.below) c.in-Loop.is
    ∙ seal_own (get (loop_names l) q) c.args.below _ (c.in-Some-look.ensures ∙ ap (λ k. get (loop_names k) q) c.deref.ensures))

pub returns-in-None-look : goal.returns-in-None-look
returns-in-None-look g c =
    let l = c.in-Loop.frame.value in
    let q = c.args.name.now in
    sym (ap (λ k. layer_seals (layer_of k) q c.args.below) c.in-Loop.is
    ∙ seal_below (get (loop_names l) q) c.args.below (c.in-None-look.ensures ∙ ap (λ k. get (loop_names k) q) c.deref.ensures))
