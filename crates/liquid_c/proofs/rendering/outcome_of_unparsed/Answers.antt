use Rattle.std.proofs.Common.{rules, Some, None, refl, sym, ◌∙◌}
use Rattle.liquid_c.proofs.LeavesLemmas.{Unread, memory_refuses, unread_refuses}
use Rattle.liquid_c.proofs.rendering.outcome_of_unparsed.Goals as goal

pub returns-then-is_memory : goal.returns-then-is_memory
returns-then-is_memory c = memory_refuses Unread _ _ (search rules) (refl, ((refl, refl), ((refl, refl), refl)))

pub returns-in-Some : goal.returns-in-Some
returns-in-Some c =
    unread_refuses _ _ (Some c.in-Some.field-0) (search rules) (sym c.in-Some.is ∙ c.place.ensures) refl (refl, refl) (refl, refl) refl

pub returns-in-None : goal.returns-in-None
returns-in-None c = unread_refuses _ _ None (search rules) (sym c.in-None.is ∙ c.place.ensures) refl (refl, refl) (refl, refl) refl
