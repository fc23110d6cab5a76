use Rattle.liquid_runtime.specs.meaning.Maps.{names_of, over}
use Rattle.liquid_runtime.specs.meaning.Roots.{NamesOf, NamesOver}
use Rattle.liquid_runtime.proofs.FrameLookups.{if_ok}
use Rattle.liquid_scopes.proofs.LayerNames.{names_both}
use Rattle.liquid_scopes.proofs.link.both_names.Goals as goal

pub returns : goal.returns
returns c =
    let g = names_of c.args.assigned.now in
    let d = names_of c.args.names.now in
    let below = c.in_ok-only_names.field-0 in
    if_ok c.add_names.result (NamesOver g below) (NamesOf (over g d))
    (λ set is. names_both g d below set c.in_ok-only_names.ensures is) c.add_names.ensures
