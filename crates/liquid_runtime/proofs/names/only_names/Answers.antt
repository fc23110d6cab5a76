use Rattle.liquid_runtime.specs.meaning.Maps.{names_of}
use Rattle.liquid_runtime.specs.meaning.Roots.{NamesOf, NamesOver}
use Rattle.liquid_runtime.proofs.FrameLookups.{names_alone, if_ok}
use Rattle.liquid_runtime.proofs.names.only_names.Goals as goal

pub returns : goal.returns
returns c =
    let m = names_of c.args.object.now in
    if_ok c.add_names.result (λ set. NamesOver m c.new.result set) (λ set. NamesOf m set)
    (λ set is. names_alone m c.new.result set is c.new.ensures.empty) c.add_names.ensures
