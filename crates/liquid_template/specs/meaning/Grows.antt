-- What is in the destination of a sink, compared with what the sink takes.
use Rattle.std.specs.Prelude.{◌≡◌, ℕ, List, ◌++◌}
use Rattle.std.specs.Io.KnownBytes.{Appends}
use Rattle.liquid_template.specs.meaning.Sunk.{Sunk}

-- the sink took more bytes, and its destination grew by the same bytes, if it is known
pub record Grows (before after : Sunk) : Type 0 where
  pub more : List ℕ
  pub taken_is : after.taken ≡ before.taken ++ more
  pub destination_is : Appends before.destination after.destination more
