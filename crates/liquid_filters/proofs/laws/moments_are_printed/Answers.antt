use Rattle.std.proofs.Common.{ap, ◌∙◌}
use Rattle.liquid_value.specs.meaning.Render.{render}
use Rattle.liquid_filters.specs.meaning.Dates.{printed}
use Rattle.liquid_filters.proofs.DateSteps.{formatted_is, kept_of, not_empty, printed_of}
use Rattle.liquid_filters.proofs.laws.moments_are_printed.Goals as goal

pub returns-clause-printed : goal.returns-clause-printed
returns-clause-printed c = λ now input pattern dt answer full is prints.
    printed_of now input (render pattern) dt (not_empty (render pattern) full) is
    ∙ ap (printed (render pattern)) (formatted_is dt (render pattern) answer prints)

pub returns-clause-kept : goal.returns-clause-kept
returns-clause-kept c = λ now input pattern none. kept_of now input (render pattern) _ none
