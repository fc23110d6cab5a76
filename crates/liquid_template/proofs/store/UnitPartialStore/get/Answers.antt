use Rattle.std.proofs.Common.{Err, ap, sym, ◌∙◌}
use Rattle.liquid_error.specs.meaning.Told.{told}
use Rattle.liquid_template.proofs.NoPartials.{no_partial}
use Rattle.liquid_template.proofs.Renderings.{if_then}
use Rattle.liquid_template.proofs.store.UnitPartialStore.get.Goals as goal

pub returns-clause-gives : goal.returns-clause-gives
returns-clause-gives g c =
    if_then (told c.unknown_partial.result) (λ r e. no_partial c.args.name.now ∙ ap (λ x. Err x) (sym e)) c.unknown_partial.ensures
