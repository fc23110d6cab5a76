-- A step of a walk takes the first of what is left, so one fewer is left.
use Rattle.std.proofs.Common.{List, length, Option, Some, None, ap}
use Rattle.std.specs.Map.Iter.{TakesFirst}
use Rattle.liquid_value.specs.laws.Steps.{CountsDown}

pub counts_down : {X A : Type 0} (shows : A → X) (s t : List X) (r : Option A) → TakesFirst shows s r t → CountsDown (length s) r (length t)
counts_down shows s t None h = (ap length h.0, ap length h.1)
counts_down shows s t (Some x) h = ap length h
