-- The state of a sink at one moment.
use Rattle.std.specs.Prelude.{ℕ, List, [], ◌∷◌, Option, None}

-- every byte that it has taken, how often it failed, the bytes in its destination, if they are known, and the ghost
-- names of what it borrows
pub record Sunk : Type 0 where
  pub taken : List ℕ
  pub failures : ℕ
  pub destination : Option (List ℕ)
  pub lent : List ℕ

abbrev pub sunk : List ℕ → ℕ → Option (List ℕ) → List ℕ → Sunk
sunk taken failures destination lent = record { taken = taken; failures = failures; destination = destination; lent = lent }

-- a sink for which the bytes in its destination aren't known, and which borrows nothing
abbrev pub alone : List ℕ → ℕ → Sunk
alone taken failures = sunk taken failures None []

-- a sink that is borrowed under a ghost name
abbrev pub borrowed : ℕ → Sunk → Sunk
borrowed name sink = record sink { lent = name ∷ sink.lent }
