-- The outcome of writing a run to a sink: the answer, what the sink took, how often it failed, and the view that is
-- left.
use Rattle.std.specs.Prelude.{
  ◌≡◌,
  ℕ,
  ◌+◌,
  ◌<◌,
  ◌⊎◌,
  true,
  false,
  List,
  [],
  ◌∷◌,
  ◌++◌,
  length,
  None,
  Some,
  Result,
  Ok,
  Err,
  MatchOption,
  OnSome,
  codes,
}
use Rattle.liquid_error.specs.declared.error.Error.{Error}
use Rattle.liquid_error.specs.meaning.Refusal.{Refusal, Note, plain}
use Rattle.liquid_error.specs.meaning.Told.{told}
use Rattle.liquid_runtime.specs.meaning.View.{View}
use Rattle.liquid_runtime.specs.meaning.Written.{SameFrames}
use Rattle.liquid_template.specs.meaning.Sunk.{Sunk}
use Rattle.liquid_template.specs.meaning.Pours.{Pours}
use Rattle.liquid_template.specs.meaning.Output.{Output, ungated, Passes, Refuses, PassesUpTo}
use Rattle.liquid_template.specs.meaning.Run.{Step, Run, pieces, written, checkpoints}

-- the sink took all pieces, and did not fail; all turns and bytes passed; the view is the run's at its end
pub record Whole {Reg : Type 0} (r : Run Reg) (before after : Output) (left : View Reg) : Type 0 where
  pub taken : after.sunk.taken ≡ before.sunk.taken ++ written r
  pub failures : after.sunk.failures ≡ before.sunk.failures
  pub turns : Passes before.turns (checkpoints r.steps) after.turns
  pub bytes : Passes before.bytes (length (written r)) after.bytes
  pub view : left ≡ r.view

-- the refusal of a sink that failed, and that of a gate, with the traces that were open
abbrev pub failed_to_render : List Note → Refusal
failed_to_render traces = record (plain (codes "Failed to render")) { traces = traces }

abbrev pub was_stopped : List Note → Refusal
was_stopped traces = record (plain (codes "Rendering was stopped")) { traces = traces }

-- a rendering breaks off at a step, before which this many turns and bytes passed. The sink failed, with some of the
-- piece left
pub record SinkFails {Reg : Type 0} (step : Step Reg) (rest : List ℕ) (turns_before bytes_before : ℕ) (before after : Output)
    (refusal : Refusal) : Type 0 where
  pub no_checkpoint : step.checkpoint ≡ false
  pub some_left : 0 < length rest
  pub failures : after.sunk.failures ≡ before.sunk.failures + 1
  pub turns : Passes before.turns turns_before after.turns
  pub bytes : Passes before.bytes (bytes_before + length step.piece) after.bytes
  pub reason : refusal ≡ failed_to_render step.traces

-- or the gate refused the turn, or the bytes of the piece, of which nothing is written. They were past the limit, if it
-- is known
pub record GateRefuses {Reg : Type 0} (step : Step Reg) (part : List ℕ) (turns_before bytes_before : ℕ) (before after : Output)
    (refusal : Refusal) : Type 0 where
  pub nothing : part ≡ []
  pub failures : after.sunk.failures ≡ before.sunk.failures
  pub refused : ((step.checkpoint ≡ true) × Refuses before.turns turns_before 1 after.turns × Passes before.bytes bytes_before after.bytes)
      ⊎ ((0 < length step.piece) × Passes before.turns turns_before after.turns
      × Refuses before.bytes bytes_before (length step.piece) after.bytes)
  pub reason : refusal ≡ was_stopped step.traces

-- broken off at one step: the sink took all pieces before it, and a part of its own piece; the view is that step's, and
-- the refusal has the traces that were open there
pub record BrokenOff {Reg : Type 0} (r : Run Reg) (before after : Output) (left : View Reg) (refusal : Refusal) : Type 0 where
  pub front : List (Step Reg)
  pub step : Step Reg
  pub later : List (Step Reg)
  pub part : List ℕ
  pub rest : List ℕ
  pub steps : r.steps ≡ front ++ step ∷ later
  pub piece : step.piece ≡ part ++ rest
  pub taken : after.sunk.taken ≡ before.sunk.taken ++ (pieces front ++ part)
  pub view : left ≡ step.at
  pub cause : SinkFails step rest (checkpoints front) (length (pieces front)) before after refusal
      ⊎ GateRefuses step part (checkpoints front) (length (pieces front)) before after refusal

-- memory ran out at one step: all before it passed, and the sink took a beginning of their pieces, joined. The sink
-- failed at most once, and so did the gate; all that is known of the view is that its frames are as at entry, as in every
-- case
pub record Cut {Reg : Type 0} (r : Run Reg) (before after : Output) : Type 0 where
  pub front : List (Step Reg)
  pub later : List (Step Reg)
  pub part : List ℕ
  pub rest : List ℕ
  pub steps : r.steps ≡ front ++ later
  pub pieces_are : pieces front ≡ part ++ rest
  pub taken : after.sunk.taken ≡ before.sunk.taken ++ part
  pub failures : (after.sunk.failures ≡ before.sunk.failures) ⊎ (after.sunk.failures ≡ before.sunk.failures + 1)
  pub turns : PassesUpTo before.turns (checkpoints front) after.turns
  pub bytes : PassesUpTo before.bytes (length (pieces front)) after.bytes

-- a refusal is the run's own, after all its pieces, or is that of the sink or the gate
abbrev pub Stopped : {Reg : Type 0} → Run Reg → Output → Output → View Reg → Refusal → Type 0
Stopped r before after left refusal = (Whole r before after left × (r.refusal ≡ Some refusal)) ⊎ BrokenOff r before after left refusal

-- done, refused, or out of memory
abbrev pub Outcome : {Reg : Type 0} → Run Reg → Output → Output → View Reg → Result (Unit {0}) Error → Type 0
Outcome r before after left (Ok _) = Whole r before after left × (r.refusal ≡ None)
Outcome r before after left (Err error) = MatchOption (told error) (Cut r before after) (Stopped r before after left)

-- a call that renders: its outcome is that of the run in the view at entry, and whatever it is, the frames are as they
-- were
pub record Renders {Reg : Type 0} (r : Run Reg) (entry : View Reg) (before after : Sunk) (left : View Reg)
    (answer : Result (Unit {0}) Error) : Type 0 where
  pub outcome : Outcome r (ungated before) (ungated after) left answer
  pub frames : SameFrames entry left
  pub pours : Pours before after answer

-- the same for a call that asks a gate before each turn and each piece
pub record RendersWithin {Reg : Type 0} (r : Run Reg) (entry : View Reg) (before after : Output) (left : View Reg)
    (answer : Result (Unit {0}) Error) : Type 0 where
  pub outcome : Outcome r before after left answer
  pub frames : SameFrames entry left
  pub pours : Pours before.sunk after.sunk answer

-- the view that is left is the run's at its end; if memory ran out, nothing more is known
abbrev pub Left : {A Reg : Type 0} → Run Reg → View Reg → Result A Error → Type 0
Left r left (Ok x) = left ≡ r.view
Left r left (Err error) = OnSome (told error) (left ≡ r.view)
