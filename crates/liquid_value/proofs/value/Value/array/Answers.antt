use Rattle.std.proofs.Common.{ap, ◌∙◌}
use Rattle.liquid_value.specs.meaning.Tree.{array}
use Rattle.liquid_value.specs.meaning.View.{items_view}
use Rattle.liquid_value.proofs.value.Value.array.Goals as goal

pub returns : goal.returns
returns g c =
    let run = c.in_ok-values.ensures.runs tt in
    (run.0, run.1, run.2, c.from.ensures ∙ ap (λ vs. array (items_view vs)) run.3.0)
