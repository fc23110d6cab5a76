use Rattle.std.proofs.Common.{sym, subst, ◌∙◌, map}
use Rattle.liquid_scopes.specs.steps.Layers.{LastGlobal, is_global}
use Rattle.liquid_scopes.specs.steps.LinkLayers.{layer_of}
use Rattle.liquid_scopes.proofs.Places.{last_of_places, last_global_is}
use Rattle.liquid_scopes.proofs.table.Table.last_global.Goals as goal

pub returns : goal.returns
returns g c =
    let ls = map layer_of c.args.self.now.links.items in
    subst (LastGlobal ls) (sym (c.last_of.ensures ∙ last_of_places is_global ls c.args.self.now.globals.items c.args.self.now.globals_are))
    (last_global_is ls)
