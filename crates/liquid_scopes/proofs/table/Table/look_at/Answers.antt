use Rattle.std.proofs.Common.{map, ap, ◌∙◌}
use Rattle.liquid_scopes.specs.steps.LinkLayers.{layer_of}
use Rattle.liquid_scopes.specs.steps.Standing.{own_at}
use Rattle.liquid_scopes.proofs.FlatLaws.{own_within, own_past}
use Rattle.liquid_scopes.proofs.table.Table.look_at.Goals as goal

pub returns-in-Some-clause-value : goal.returns-in-Some-clause-value
returns-in-Some-clause-value g c =
    c.look.ensures.value ∙ own_within layer_of c.as_slice.result.now c.args.place c.in-Some.link.now c.args.name.now
    c.in-Some.ensures.lookup.3.0 c.in-Some.ensures.lookup.1
    ∙ ap (λ xs. own_at c.args.place (map layer_of xs) c.args.name.now) c.as_slice.ensures.value

pub returns-in-None-clause-value : goal.returns-in-None-clause-value
returns-in-None-clause-value g c = own_past layer_of c.as_slice.result.now c.args.place c.args.name.now c.in-None.ensures.lookup.3
    ∙ ap (λ xs. own_at c.args.place (map layer_of xs) c.args.name.now) c.as_slice.ensures.value
