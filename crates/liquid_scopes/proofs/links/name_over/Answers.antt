use Rattle.std.proofs.Common.{arith, sym, ◌∙◌, ap, map, take}
use Rattle.std.proofs.lemmas.List.{take_all}
use Rattle.liquid_scopes.specs.steps.Layers.{shown_over, layer_name}
use Rattle.liquid_scopes.specs.steps.LinkLayers.{layer_of}
use Rattle.liquid_scopes.proofs.LayerLaws.{shown_step, name_link}
use Rattle.liquid_scopes.proofs.links.name_over.Goals as goal

pub loop-link-preserved : goal.loop-link-preserved
loop-link-preserved g c = λ v e.
    let xs = c.args.links.now in
    let i = c.loop-link.link-index in
    let l = c.link-item.result in
    c.name_over-name.ensures ∙ ap (layer_name (layer_of l)) (c.loop-link.invariant v e)
    ∙ sym (name_link (layer_of l) (shown_over v (map layer_of (take i xs))))
    ∙ ap (λ u. u.name) (sym (shown_step layer_of v xs i l c.loop-link-test.true c.link-item.is))

pub returns : goal.returns
returns g c =
    λ v e. c.loop-link.invariant v e ∙ ap (λ xs. (shown_over v (map layer_of xs)).name)
    (take_all c.loop-link.link-index c.args.links.now (omega (arith, c.loop-link-test.false)))
