use Rattle.std.proofs.Common.{Some, ap, ◌∙◌}
use Rattle.std.specs.Prelude.{option_map}
use Rattle.liquid_views.proofs.Maps.{value_of_map}
use Rattle.liquid_views.proofs.object.BTreeMapObjectView.lookup.Goals as goal

pub returns-in_ok-to_cow-in-Some : goal.returns-in_ok-to_cow-in-Some
returns-in_ok-to_cow-in-Some g c =
    ap Some c.in_ok-to_cow-in-Some.ensures
    ∙ ap (option_map g.V.ValueView.tree) c.in-Some.ensures
    ∙ value_of_map g.K.ObjectIndex.index g.V.ValueView.tree c.args.index.now c.args.self.now.entries

pub returns-in-None : goal.returns-in-None
returns-in-None g c =
    ap (option_map g.V.ValueView.tree) c.in-None.ensures ∙ value_of_map g.K.ObjectIndex.index g.V.ValueView.tree c.args.index.now
    c.args.self.now.entries
