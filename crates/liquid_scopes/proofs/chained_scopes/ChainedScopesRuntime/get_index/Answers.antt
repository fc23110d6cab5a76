use Rattle.std.proofs.Common.{sym, ◌∙◌, ap, map}
use Rattle.liquid_runtime.specs.meaning.Calls.{value_in}
use Rattle.liquid_scopes.specs.steps.LinkLayers.{layer_of}
use Rattle.liquid_scopes.proofs.LayerLaws.{shown_index}
use Rattle.liquid_scopes.proofs.chained_scopes.ChainedScopesRuntime.get_index.Goals as goal

pub returns : goal.returns
returns g c =
    c.get_index.ensures ∙ ap (λ i. value_in i c.args.name.now) (sym
    (shown_index (g.R.Runtime.view c.args.self.now.base) (map layer_of c.args.self.now.links.items)))
