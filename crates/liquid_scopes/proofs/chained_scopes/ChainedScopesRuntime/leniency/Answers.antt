use Rattle.std.proofs.Common.{sym, ◌∙◌, map}
use Rattle.liquid_scopes.specs.steps.LinkLayers.{layer_of}
use Rattle.liquid_scopes.proofs.LayerLaws.{shown_lenient}
use Rattle.liquid_scopes.proofs.chained_scopes.ChainedScopesRuntime.leniency.Goals as goal

pub returns : goal.returns
returns g c = c.leniency.ensures ∙ sym (shown_lenient (g.R.Runtime.view c.args.self.now.base) (map layer_of c.args.self.now.links.items))
