-- Short forms for what the calls of a node return.
use Rattle.std.specs.Prelude.{ℕ, List, Result, Ok}
use Rattle.liquid_error.specs.meaning.Refusal.{Refusal, ok_then}
use Rattle.liquid_runtime.specs.meaning.View.{View}
use Rattle.liquid_runtime.specs.meaning.Written.{written_of}
use Rattle.liquid_plugins.specs.meaning.Turns.{TurnShape, Answered}

-- a result that leaves what this view has; over the view of the call it writes nothing
abbrev pub answers : {A P Reg : Type 0} → Result A Refusal → P → View Reg → Answered A P Reg
answers answer progress v = record { answer = answer; progress = progress; written = written_of v }

-- a start that makes this progress
abbrev pub begins_with : {P Reg : Type 0} → P → View Reg → Answered P (Unit {0}) Reg
begins_with progress v = answers (Ok progress) tt v

-- a turn made from the result of a call
abbrev pub turned : {A P Reg : Type 0} → (A → TurnShape) → P → Answered A (Unit {0}) Reg → Answered TurnShape P Reg
turned turn progress t = record { answer = ok_then t.answer (λ x. Ok (turn x)); progress = progress; written = t.written }

-- for nodes that capture no part: a text changes nothing
abbrev pub captures_nothing : {N P : Type 0} → N → P → List ℕ → P
captures_nothing n progress text = progress
