-- The result of putting out one piece, through a gate to a sink, or to a text.
use Rattle.std.specs.Prelude.{◌≡◌, ℕ, ◌+◌, ◌<◌, ◌⊎◌, List, [], ◌++◌, length, Option, None, Result, Ok, Err, IsErrAnd, MatchOption}
use Rattle.liquid_error.specs.declared.error.Error.{Error}
use Rattle.liquid_error.specs.meaning.Refusal.{Refusal}
use Rattle.liquid_error.specs.meaning.Told.{told}
use Rattle.liquid_template.specs.meaning.Output.{Output, Passes, Refuses}
use Rattle.liquid_template.specs.meaning.Pours.{Pours}
use Rattle.liquid_template.specs.meaning.Outcome.{failed_to_render, was_stopped}

-- the sink failed, with some of the piece left
pub record PieceFails (piece rest : List ℕ) (before after : Output) (refusal : Refusal) : Type 0 where
  pub some_left : 0 < length rest
  pub failures : after.sunk.failures ≡ before.sunk.failures + 1
  pub bytes : Passes before.bytes (length piece) after.bytes
  pub reason : refusal ≡ failed_to_render []

-- the gate refused the piece
pub record PieceRefused (piece part : List ℕ) (before after : Output) (refusal : Refusal) : Type 0 where
  pub nothing : part ≡ []
  pub some_asked : 0 < length piece
  pub failures : after.sunk.failures ≡ before.sunk.failures
  pub bytes : Refuses before.bytes 0 (length piece) after.bytes
  pub reason : refusal ≡ was_stopped []

-- there was no memory: after the piece had passed, or for the error of a piece that the gate refused
pub record PieceLost (piece part : List ℕ) (before after : Output) : Type 0 where
  pub failures : (after.sunk.failures ≡ before.sunk.failures) ⊎ (after.sunk.failures ≡ before.sunk.failures + 1)
  pub bytes : Passes before.bytes (length piece) after.bytes ⊎ ((part ≡ []) × Refuses before.bytes 0 (length piece) after.bytes)

-- a part was taken, and no more
pub record Partial (piece : List ℕ) (before after : Output) (told : Option Refusal) : Type 0 where
  pub part : List ℕ
  pub rest : List ℕ
  pub is : piece ≡ part ++ rest
  pub taken : after.sunk.taken ≡ before.sunk.taken ++ part
  pub cause : MatchOption told (PieceLost piece part before after)
      (λ refusal. PieceFails piece rest before after refusal ⊎ PieceRefused piece part before after refusal)

-- all of it was taken
pub record Taken (piece : List ℕ) (before after : Output) : Type 0 where
  pub taken : after.sunk.taken ≡ before.sunk.taken ++ piece
  pub failures : after.sunk.failures ≡ before.sunk.failures
  pub bytes : Passes before.bytes (length piece) after.bytes

abbrev pub PieceTaken : List ℕ → Output → Output → Result (Unit {0}) Error → Type 0
PieceTaken piece before after (Ok _) = Taken piece before after
PieceTaken piece before after (Err error) = Partial piece before after (told error)

-- one piece put out
pub record PieceOut (piece : List ℕ) (before after : Output) (answer : Result (Unit {0}) Error) : Type 0 where
  pub taken : PieceTaken piece before after answer
  pub turns : after.turns ≡ before.turns
  pub pours : Pours before.sunk after.sunk answer

-- the text of a value put out as one piece; or nothing, if there was no memory for it
abbrev pub ValueOut : List ℕ → Output → Output → Result (Unit {0}) Error → Type 0
ValueOut text before after answer = PieceOut text before after answer ⊎ ((after ≡ before) × IsErrAnd answer (λ error. told error ≡ None))
