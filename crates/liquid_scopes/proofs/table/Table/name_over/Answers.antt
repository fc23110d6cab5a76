use Rattle.std.proofs.Common.{ap, ◌∙◌, map}
use Rattle.liquid_scopes.specs.steps.Layers.{shown_over}
use Rattle.liquid_scopes.specs.steps.LinkLayers.{layer_of}
use Rattle.liquid_scopes.proofs.table.Table.name_over.Goals as goal

pub returns : goal.returns
returns g c = λ v e. c.name_over.ensures v e ∙ ap (λ xs. (shown_over v (map layer_of xs)).name) c.as_slice.ensures.value
