-- Of two stops the farther one, or both at the same place.
use Rattle.std.specs.Prelude.{ℕ, Bool, cond, nat_lt, Option, Some, None, ◌||◌, ◌==◌}
use Rattle.liquid_explain.specs.declared.part.Parts.{Parts}
use Rattle.liquid_explain.specs.declared.stop.Stop.{Stop}
use Rattle.liquid_explain.specs.meaning.Parts.{union}

abbrev pub stop_at : ℕ → Parts → Stop
stop_at n parts = record { left = n; expected = parts }

abbrev pub farther_of : Stop → Stop → Stop
farther_of a b =
    cond (nat_lt a.left b.left) a (cond (nat_lt b.left a.left) b (stop_at a.left (union a.expected b.expected)))

abbrev pub farther : Option Stop → Option Stop → Option Stop
farther None b = b
farther (Some a) None = Some a
farther (Some a) (Some b) = Some (farther_of a b)
