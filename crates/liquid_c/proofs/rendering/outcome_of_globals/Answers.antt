use Rattle.std.proofs.Common.{rules, refl}
use Rattle.liquid_c.specs.meaning.Outcomes.{outcome_alone}
use Rattle.liquid_c.proofs.LeavesLemmas.{OfGlobals, globals_refuse, memory_refuses}
use Rattle.liquid_c.proofs.rendering.outcome_of_globals.Goals as goal

pub returns-then-is_memory : goal.returns-then-is_memory
returns-then-is_memory c = memory_refuses OfGlobals _ (outcome_alone 6) (search rules) (refl, ((refl, refl), ((refl, refl), refl)))

pub returns : goal.returns
returns c = globals_refuse _ (outcome_alone 4) (search rules) refl (refl, refl) (refl, refl) refl
