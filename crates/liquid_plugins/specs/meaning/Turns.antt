-- What the nodes of tags and blocks mean: what each call returns, and what it leaves.
use Rattle.std.specs.Prelude.{ℕ, List, Option, Result}
use Rattle.liquid_error.specs.meaning.Refusal.{Refusal}
use Rattle.liquid_runtime.specs.meaning.View.{View}
use Rattle.liquid_runtime.specs.meaning.Written.{Written}
use Rattle.liquid_runtime.specs.meaning.Frames.{FrameShape}

-- what a turn returns: a text; a part of the node, or the partial of a name, each under a frame, and with a trace for
-- its errors if one is given; a part whose text is given to the node and not written; or that the node has ended
pub data TurnShape : Type 0 where
  text_turn : List ℕ → TurnShape
  body_turn : ℕ → FrameShape → Option (List ℕ) → TurnShape
  partial_turn : List ℕ → FrameShape → Option (List ℕ) → TurnShape
  capture_turn : ℕ → FrameShape → Option (List ℕ) → TurnShape
  end_turn : TurnShape

-- what a call returns, the progress that it leaves, and what it has written
pub record Answered (A P Reg : Type 0) : Type 0 where
  pub answer : Result A Refusal
  pub progress : P
  pub written : Written Reg

-- what a kind of nodes N with progress P means
pub record NodeMeaning (N P Reg : Type 0) : Type 0 where
  -- the start, which makes the progress
  pub starts : N → View Reg → Answered P (Unit {0}) Reg
  -- the greatest number of turns
  pub count : P → ℕ
  -- a turn
  pub takes : N → P → View Reg → Answered TurnShape P Reg
  -- the progress after the node was given the text of the part that its turn captured
  pub catches : N → P → List ℕ → P
