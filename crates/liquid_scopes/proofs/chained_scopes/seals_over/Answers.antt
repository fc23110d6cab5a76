use Rattle.std.proofs.Common.{sym, ◌∙◌, ap, map, take}
use Rattle.liquid_runtime.specs.meaning.NamesSeen.{comes_from_seal}
use Rattle.liquid_scopes.specs.steps.Layers.{shown_over, layer_seals}
use Rattle.liquid_scopes.specs.steps.LinkLayers.{layer_of}
use Rattle.liquid_scopes.proofs.LayerLaws.{seal_layer, shown_step}
use Rattle.liquid_scopes.proofs.chained_scopes.seals_over.Goals as goal

pub loop-link-preserved : goal.loop-link-preserved
loop-link-preserved g c = λ v e.
    let xs = c.args.links.now in
    let i = c.loop-link.link-index in
    let l = c.link-item.result in
    c.seals-sealed.ensures ∙ ap (layer_seals (layer_of l) c.args.name.now) (c.loop-link.invariant v e)
    ∙ sym (seal_layer (layer_of l) (shown_over v (map layer_of (take i xs))) c.args.name.now)
    ∙ ap (λ u. comes_from_seal u c.args.name.now) (sym (shown_step layer_of v xs i l c.loop-link-test.true c.link-item.is))
