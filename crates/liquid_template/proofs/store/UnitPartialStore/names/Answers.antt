use Rattle.std.proofs.Common.{map, ap, sym, ◌∙◌}
use Rattle.liquid_template.proofs.NoPartials.{no_names}
use Rattle.liquid_template.proofs.store.UnitPartialStore.names.Goals as goal

pub returns : goal.returns
returns g c = ap (map (λ name. name.now)) c.new.ensures.items ∙ sym (no_names _)
