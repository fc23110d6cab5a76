use Rattle.std.proofs.Common.{rules, Some, None, refl, sym, ◌∙◌}
use Rattle.liquid_c.specs.meaning.Outcomes.{outcome_alone}
use Rattle.liquid_c.proofs.LeavesLemmas.{Rendered, memory_refuses, rendered_refuses}
use Rattle.liquid_c.proofs.rendering.outcome_of_refused.Goals as goal

pub returns-then-is_memory : goal.returns-then-is_memory
returns-then-is_memory c = memory_refuses Rendered _ (outcome_alone 6) (search rules) (refl, ((refl, refl), ((refl, refl), refl)))

pub returns-in-Some : goal.returns-in-Some
returns-in-Some c =
    let place = c.in-Some.field-0 in
    rendered_refuses _ (record c.locate-located.result { line = place.line; column = place.column }) (Some place) (search rules)
    (sym c.in-Some.is ∙ c.place.ensures) c.locate-located.ensures.kind (refl, refl)
    (rw c.locate-located.ensures.limit c.number_of.ensures)

pub returns-in-None : goal.returns-in-None
returns-in-None c =
    rendered_refuses _ c.locate-located.result None (search rules) (sym c.in-None.is ∙ c.place.ensures) c.locate-located.ensures.kind
    (search rules) (rw c.locate-located.ensures.limit c.number_of.ensures)
