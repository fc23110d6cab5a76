use Rattle.std.proofs.Common.{sym, ◌∙◌, map}
use Rattle.liquid_scopes.specs.steps.LinkLayers.{layer_of}
use Rattle.liquid_scopes.proofs.LayerLaws.{shown_registers}
use Rattle.liquid_scopes.proofs.flat_scopes.FlatScopesRuntime.registers.Goals as goal

pub returns : goal.returns
returns g c =
    c.registers.ensures ∙ sym (shown_registers (g.R.Runtime.view c.args.self.now.base) (map layer_of c.args.self.now.table.links.items))
