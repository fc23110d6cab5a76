use Rattle.std.proofs.Common.{ap, ◌∙◌, map}
use Rattle.liquid_scopes.specs.steps.Layers.{shown_over}
use Rattle.liquid_scopes.specs.steps.LinkLayers.{layer_of}
use Rattle.liquid_scopes.proofs.chained_scopes.ChainedScopesRuntime.name.Goals as goal

pub returns : goal.returns
returns g c =
    let v = g.R.Runtime.view c.args.self.now.base in
    c.name_over.ensures v c.name.ensures ∙ ap (λ xs. (shown_over v (map layer_of xs)).name) c.as_slice.ensures.value
