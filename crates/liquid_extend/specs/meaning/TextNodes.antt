-- What text blocks render.
use Rattle.std.specs.Prelude.{ℕ, List, Option, None, Some, Result, Ok}
use Rattle.liquid_error.specs.meaning.Refusal.{Refusal, ok_then}
use Rattle.liquid_runtime.specs.meaning.Frames.{no_frame}
use Rattle.liquid_plugins.specs.meaning.Turning.{answers, begins_with}
use Rattle.liquid_plugins.specs.meaning.Turns.{TurnShape, text_turn, capture_turn, NodeMeaning}
use Rattle.liquid_extend.specs.meaning.Sense.{TextBlockSense}

module _ {K : Type 0} (sense : K → TextBlockSense) where
  -- the body is captured first; once there is its text, what the block makes of it is written
  abbrev pub turn_at : K → Option (List ℕ) → Result TurnShape Refusal
  turn_at kind None = Ok (capture_turn 0 no_frame None)
  turn_at kind (Some body) = ok_then ((sense kind).transforms body) (λ text. Ok (text_turn text))

  -- two turns; the progress is the body's text, once there is one
  abbrev pub text_nodes : {Reg : Type 0} → NodeMeaning K (Option (List ℕ)) Reg
  text_nodes = record {
    starts = λ kind. begins_with None;
    count = λ progress. 2;
    takes = λ kind progress. answers (turn_at kind progress) progress;
    catches = λ kind progress text. Some text;
  }
