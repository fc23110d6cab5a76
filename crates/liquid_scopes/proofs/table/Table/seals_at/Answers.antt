use Rattle.std.proofs.Common.{map, ap, ◌∙◌}
use Rattle.liquid_scopes.specs.steps.LinkLayers.{layer_of}
use Rattle.liquid_scopes.specs.steps.Standing.{seals_at}
use Rattle.liquid_scopes.proofs.Sealed.{seals_within, seals_past}
use Rattle.liquid_scopes.proofs.table.Table.seals_at.Goals as goal

pub returns-in-Some-clause-seals : goal.returns-in-Some-clause-seals
returns-in-Some-clause-seals g c =
    c.seals_own.ensures.seals ∙ seals_within layer_of c.as_slice.result.now c.args.place c.in-Some.link.now c.args.name.now
    c.in-Some.ensures.lookup.3.0 c.in-Some.ensures.lookup.1
    ∙ ap (λ xs. seals_at (map layer_of xs) c.args.name.now c.args.place) c.as_slice.ensures.value

pub returns-in-None-clause-seals : goal.returns-in-None-clause-seals
returns-in-None-clause-seals g c = seals_past layer_of c.as_slice.result.now c.args.place c.args.name.now c.in-None.ensures.lookup.3
    ∙ ap (λ xs. seals_at (map layer_of xs) c.args.name.now c.args.place) c.as_slice.ensures.value
