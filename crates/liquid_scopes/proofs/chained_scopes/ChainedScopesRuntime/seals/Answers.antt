use Rattle.std.proofs.Common.{ap, ◌∙◌, map}
use Rattle.liquid_runtime.specs.meaning.NamesSeen.{comes_from_seal}
use Rattle.liquid_scopes.specs.steps.Layers.{shown_over}
use Rattle.liquid_scopes.specs.steps.LinkLayers.{layer_of}
use Rattle.liquid_scopes.proofs.chained_scopes.ChainedScopesRuntime.seals.Goals as goal

pub returns : goal.returns
returns g c =
    let v = g.R.Runtime.view c.args.self.now.base in
    c.seals_over.ensures v c.seals.ensures ∙ ap (λ xs. comes_from_seal (shown_over v (map layer_of xs)) c.args.name.now)
    c.as_slice.ensures.value
