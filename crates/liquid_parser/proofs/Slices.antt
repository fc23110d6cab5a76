-- A text before an end of it.
use Rattle.std.proofs.Common.{◌≡◌, ℕ, ◌-◌, List, ◌++◌, length, take}
use Rattle.liquid_grammar.proofs.Exact.{before_end}

-- the rest of a text is after the text before it
pub front_ends : (s front rest : List ℕ) → s ≡ front ++ rest → s ≡ take (length s - length rest) s ++ rest
front_ends s front rest is = before_end s rest (front, is)
