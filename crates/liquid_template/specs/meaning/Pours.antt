-- What writing leaves of a sink, besides its outcome.
use Rattle.std.specs.Prelude.{◌≡◌, ℕ, List, ◌++◌, Result, IsUtf8, OnOk}
use Rattle.liquid_error.specs.declared.error.Error.{Error}
use Rattle.liquid_template.specs.meaning.Grows.{Grows}
use Rattle.liquid_template.specs.meaning.Sunk.{Sunk}

-- what was taken since is text
pub record TookText (before after : List ℕ) : Type 0 where
  pub more : List ℕ
  pub taken_is : after ≡ before ++ more
  pub text : IsUtf8 more

-- the destination of the sink grew by what it took, it borrows what it borrowed, and if the call succeeds, what was
-- written is text
pub record Pours (before after : Sunk) (answer : Result (Unit {0}) Error) : Type 0 where
  pub grows : Grows before after
  pub lent : after.lent ≡ before.lent
  pub text : OnOk answer (TookText before.taken after.taken)
