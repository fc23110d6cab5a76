-- The result of putting one piece to a sink, over as many puts as it takes.
use Rattle.std.specs.Prelude.{◌≡◌, ℕ, ◌+◌, ◌<◌, ◌⊎◌, List, [], ◌++◌, length, Result, Ok, Err, MatchOption}
use Rattle.liquid_error.specs.declared.error.Error.{Error}
use Rattle.liquid_error.specs.meaning.Told.{told}
use Rattle.liquid_template.specs.meaning.Sunk.{Sunk}
use Rattle.liquid_template.specs.meaning.Pours.{Pours}
use Rattle.liquid_template.specs.meaning.Outcome.{failed_to_render}

-- the sink took a part of the piece, and not all of it
pub record Partly (piece : List ℕ) (before after : Sunk) : Type 0 where
  pub part : List ℕ
  pub rest : List ℕ
  pub is : piece ≡ part ++ rest
  pub some_left : 0 < length rest
  pub taken : after.taken ≡ before.taken ++ part

-- the sink took all of it and did not fail; or took a part, and failed once or had no memory
abbrev pub PiecePutTaken : List ℕ → Sunk → Sunk → Result (Unit {0}) Error → Type 0
PiecePutTaken piece before after (Ok _) = (after.taken ≡ before.taken ++ piece) × (after.failures ≡ before.failures)
PiecePutTaken piece before after (Err error) =
    Partly piece before after
    × MatchOption (told error) ((after.failures ≡ before.failures) ⊎ (after.failures ≡ before.failures + 1))
    (λ refusal. (after.failures ≡ before.failures + 1) × (refusal ≡ failed_to_render []))

-- one piece put to a sink
pub record PiecePut (piece : List ℕ) (before after : Sunk) (answer : Result (Unit {0}) Error) : Type 0 where
  pub taken : PiecePutTaken piece before after answer
  pub pours : Pours before after answer
