use Rattle.std.proofs.Common.{sym, ◌∙◌, ap, map, take}
use Rattle.liquid_runtime.specs.meaning.NamesSeen.{lookup}
use Rattle.liquid_scopes.specs.steps.Layers.{shown_over, layer_found}
use Rattle.liquid_scopes.specs.steps.LinkLayers.{layer_of}
use Rattle.liquid_scopes.proofs.LayerLaws.{lookup_link, shown_step}
use Rattle.liquid_scopes.proofs.chained_scopes.ChainedScopesRuntime.try_get_name.Goals as goal

pub loop-link-preserved : goal.loop-link-preserved
loop-link-preserved g c =
    let v = g.R.Runtime.view c.args.self.now.base in
    let xs = c.deref-link-items.result.now in
    let i = c.loop-link.link-index in
    let l = c.link-item.result in
    c.find_name-found.ensures ∙ ap (layer_found (layer_of l) c.args.name.now) c.loop-link.invariant
    ∙ sym (lookup_link (layer_of l) (shown_over v (map layer_of (take i xs))) c.args.name.now)
    ∙ ap (λ u. lookup u c.args.name.now) (sym (shown_step layer_of v xs i l c.loop-link-test.true c.link-item.is))
