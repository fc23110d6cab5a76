use Rattle.std.proofs.Common.{◌∙◌, map}
use Rattle.liquid_scopes.specs.steps.LinkLayers.{layer_of}
use Rattle.liquid_scopes.specs.steps.Standing.{is_sandboxed}
use Rattle.liquid_scopes.proofs.Places.{last_of_places}
use Rattle.liquid_scopes.proofs.table.Table.find_sandboxed.Goals as goal

pub returns : goal.returns
returns g c =
    c.last_of.ensures ∙ last_of_places is_sandboxed (map layer_of c.args.self.now.links.items) c.args.self.now.seals.items
    c.args.self.now.seals_are
