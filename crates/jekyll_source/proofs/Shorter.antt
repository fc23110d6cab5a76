-- What is left of a text is not longer.
use Rattle.std.proofs.Common.{ℕ, ◌≤◌, List, length, drop, arith}
use Rattle.std.proofs.lemmas.List.{length-drop}

pub drop_shorter : (n : ℕ) (text : List ℕ) → length (drop n text) ≤ length text
drop_shorter n text = omega (arith, length-drop n text)
