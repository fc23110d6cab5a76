-- The frame of a partial that is rendered.
use Rattle.std.specs.Prelude.{Ok}
use Rattle.liquid_error.specs.meaning.Refusal.{ok_then}
use Rattle.liquid_runtime.specs.meaning.Frames.{FrameShape, sandboxed_frame, isolated_frame}
use Rattle.liquid_plugins.specs.meaning.Turns.{TurnShape, partial_turn, Answered}

-- an isolated frame in place of a sandboxed one
abbrev pub isolated_from : FrameShape → FrameShape
isolated_from (sandboxed_frame names name) = isolated_frame names name
isolated_from frame = frame

abbrev pub isolated : TurnShape → TurnShape
isolated (partial_turn name frame trace) = partial_turn name (isolated_from frame) trace
isolated turn = turn

-- the turn of a tag of `liquid_tags`, with its partial isolated
abbrev pub library_turn : {P Reg : Type 0} → Answered TurnShape P Reg → Answered TurnShape P Reg
library_turn t = record t { answer = ok_then t.answer (λ turn. Ok (isolated turn)) }
