use Rattle.std.proofs.Common.{◌≡◌, ℕ, List}
use Rattle.std.specs.Prelude.{is_some, nat_eq, ◌&&◌, ◌||◌}
use Rattle.std.specs.FinMap.{get}
use Rattle.liquid_runtime.specs.meaning.Maps.{names_of}
use Rattle.liquid_scopes.specs.steps.Standing.{stands}
use Rattle.liquid_runtime.proofs.Objects.{has_name}
use Rattle.liquid_scopes.proofs.index.Index.note_all.Given as goal

-- the names that are still to come are those that are missing, and none is removed
abbrev pub invariant-loop-name : goal.invariant-loop-name
invariant-loop-name l = (q : List ℕ) (j : ℕ)
    → ((stands l.self.places q j || (has_name q l.name-iterator && nat_eq j l.frame)) ≡ (stands l.initial.self.places q j
    || (is_some (get (names_of l.names) q) && nat_eq j l.frame)))
    × ((stands l.self.places q j || stands l.initial.self.places q j) ≡ stands l.self.places q j)
