-- A run under limits: it ends before the first step that goes past one of them.
use Rattle.std.specs.Prelude.{ℕ, ◌-◌, List, [], ◌∷◌, length, Bool, ◌&&◌, Option, None, Some, nat_le, if◌then◌else◌}
use Rattle.liquid_error.specs.meaning.Refusal.{Refusal}
use Rattle.liquid_runtime.specs.meaning.View.{View}
use Rattle.liquid_template.specs.meaning.Outcome.{was_stopped}
use Rattle.liquid_template.specs.meaning.Output.{Gated, gated_by, passed}
use Rattle.liquid_template.specs.meaning.Run.{Action, Run, Step, one_if}
use Rattle.liquid_pages.specs.declared.options.PageOptions.{PageOptions}
use Rattle.liquid_pages.specs.declared.options.Room.{Room}

abbrev pub room : ℕ → ℕ → Room
room turns bytes = record { turns = turns; bytes = bytes }

-- the greatest number of 64 bits
abbrev pub most : ℕ
most = 18446744073709551615

-- the room that options leave, if they limit anything; where only one number is limited, the other one is below the most
abbrev pub room_given : Option ℕ → Option ℕ → Option Room
room_given None None = None
room_given (Some turns) None = Some (room turns most)
room_given None (Some bytes) = Some (room most bytes)
room_given (Some turns) (Some bytes) = Some (room turns bytes)

abbrev pub room_of : PageOptions → Option Room
room_of options = room_given options.max_turns options.max_bytes

-- what a gate that leaves this room was asked at first
abbrev pub fresh_gate : Room → Gated
fresh_gate left = gated_by (passed 0 0 (Some left.turns)) (passed 0 0 (Some left.bytes))

module _ {Reg : Type 0} where
  -- a turn, or a whole piece, passes if there is room for it
  abbrev pub has_room : Room → Step Reg → Bool
  has_room left step = nat_le (one_if step.checkpoint) left.turns && nat_le (length step.piece) left.bytes

  abbrev pub room_after : Room → Step Reg → Room
  room_after left step = room (left.turns - one_if step.checkpoint) (left.bytes - length step.piece)

  -- the run from the step on at which it is stopped, and the run with one more step at its front
  abbrev pub stopped_at : Step Reg → Run Reg
  stopped_at step = record { steps = []; refusal = Some (was_stopped step.traces); view = step.at }

  abbrev pub with_step : Step Reg → Run Reg → Run Reg
  with_step step r = record r { steps = step ∷ r.steps }

  -- a run of these steps that ends like this, as far as there is room
  abbrev pub steps_within : Room → List (Step Reg) → Option Refusal → View Reg → Run Reg
  steps_within left [] refusal view = record { steps = []; refusal = refusal; view = view }
  steps_within left (step ∷ steps) refusal view =
      if has_room left step then with_step step (steps_within (room_after left step) steps refusal view) else stopped_at step

  abbrev pub run_within : Room → Run Reg → Run Reg
  run_within left r = steps_within left r.steps r.refusal r.view

  -- without limits a run is what it is
  abbrev pub limited : Option Room → Action Reg → Action Reg
  limited None action v = action v
  limited (Some left) action v = run_within left (action v)
