use Rattle.std.proofs.Common.{ap, ◌∙◌}
use Rattle.std.specs.Prelude.{option_map}
use Rattle.liquid_views.proofs.EntryLookups.{value_of_entries, copied_tree}
use Rattle.liquid_views.proofs.hash_map.value_at.Goals as goal

pub returns : goal.returns
returns g c =
    copied_tree g.V.ValueView.tree c.get.result
    ∙ ap (option_map g.V.ValueView.tree) c.get.ensures.value
    ∙ value_of_entries g.V.ValueView.tree c.args.name.now c.args.map.now.entries c.len-size.ensures.unique
