-- What the calls of a node return and leave.
use Rattle.std.specs.Prelude.{◌≡◌, Result, Ok, Err, OnSome, option_map, string_bytes}
use Rattle.liquid_error.specs.declared.error.Error.{Error}
use Rattle.liquid_error.specs.meaning.Told.{told}
use Rattle.liquid_runtime.specs.meaning.View.{View}
use Rattle.liquid_runtime.specs.meaning.Written.{Written, with_written}
use Rattle.liquid_runtime.specs.meaning.Calls.{frame_of}
use Rattle.liquid_plugins.specs.meaning.Turns.{TurnShape, text_turn, body_turn, partial_turn, capture_turn, end_turn}
use Rattle.liquid_plugins.specs.declared.render.Turn.{Turn}
use Rattle.liquid_plugins.specs.declared.render.Turn.TheVariants as turn

-- the shape of a turn
abbrev pub turn_of : Turn → TurnShape
turn_of (turn.Text s) = text_turn (string_bytes s)
turn_of (turn.Body place frame trace) = body_turn place (frame_of frame) (option_map (λ s. string_bytes s) trace)
turn_of (turn.Partial name frame trace) = partial_turn (string_bytes name) (frame_of frame) (option_map (λ s. string_bytes s) trace)
turn_of (turn.Capture place frame trace) = capture_turn place (frame_of frame) (option_map (λ s. string_bytes s) trace)
turn_of turn.End = end_turn

-- this is left, unless the call was out of memory
abbrev pub LeavesProgress : {A P : Type 0} → Result A Error → P → P → Type 0
LeavesProgress (Ok x) meant left = left ≡ meant
LeavesProgress (Err e) meant left = OnSome (told e) (left ≡ meant)

-- the view that is left has this written in it, unless the call was out of memory
abbrev pub Leaves : {A Reg : Type 0} → Result A Error → Written Reg → View Reg → View Reg → Type 0
Leaves result written before after = LeavesProgress result (with_written written before) after
