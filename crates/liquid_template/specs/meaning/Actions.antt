-- What rendering is made of: a piece, a refusal, one action after another, a frame.
use Rattle.std.specs.Prelude.{
  ℕ,
  zero,
  suc,
  List,
  [],
  ◌∷◌,
  ◌++◌,
  map,
  true,
  false,
  cond,
  is_some,
  Option,
  None,
  Some,
  option_map,
  Result,
  Ok,
  Err,
}
use Rattle.liquid_error.specs.meaning.Refusal.{Refusal, Note}
use Rattle.liquid_value.specs.meaning.Tree.{Tree}
use Rattle.liquid_value.specs.meaning.Render.{render}
use Rattle.liquid_runtime.specs.meaning.Frames.{FrameShape, Restore, beginning, restored_by, ending}
use Rattle.liquid_template.specs.meaning.Run.{Step, Run, Action}

-- a trace, if one is given, after those that are there
abbrev pub traced : Option (List ℕ) → List Note → List Note
traced None notes = notes
traced (Some text) notes = notes ++ record { text = text; contexts = [] } ∷ []

-- a refusal from where the trace is open
abbrev pub refused_through : Option (List ℕ) → Refusal → Refusal
refused_through trace refusal = record refusal { traces = traced trace refusal.traces }

module _ {Reg : Type 0} where
  -- nothing is written
  abbrev pub done : Action Reg
  done v = record { steps = []; refusal = None; view = v }

  -- nothing is written, because of this refusal
  abbrev pub refuses : Refusal → Action Reg
  refuses refusal v = record { steps = []; refusal = Some refusal; view = v }

  -- one piece is written
  abbrev pub writes : List ℕ → Action Reg
  writes piece v = record { steps = record { piece = piece; checkpoint = false; traces = []; at = v } ∷ []; refusal = None; view = v }

  -- the checkpoint before a turn
  abbrev pub asks : Action Reg
  asks v = record { steps = record { piece = []; checkpoint = true; traces = []; at = v } ∷ []; refusal = None; view = v }

  -- a value is written as it renders, and a refusal ends the run
  abbrev pub writes_value : Result Tree Refusal → Action Reg
  writes_value (Ok t) = writes (render t)
  writes_value (Err refusal) = refuses refusal

  -- a run that ended in this way, and then what follows it
  abbrev pub goes_on : Option Refusal → Run Reg → Action Reg → Run Reg
  goes_on (Some refusal) r next = r
  goes_on None r next = record { steps = r.steps ++ (next r.view).steps; refusal = (next r.view).refusal; view = (next r.view).view }

  -- one run, and then another in the view that it leaves, unless the first one has a refusal
  abbrev pub and_then : Run Reg → Action Reg → Run Reg
  and_then r next = goes_on r.refusal r next

  -- nothing more is written if an interrupt is set
  abbrev pub unless_interrupted : Action Reg → Action Reg
  unless_interrupted next v = cond (is_some v.interrupt) (done v) (next v)

  -- a step, and a run, seen from outside a frame and a trace
  abbrev pub step_outside : Restore Reg → Option (List ℕ) → Step Reg → Step Reg
  step_outside restores trace step =
      record { piece = step.piece; checkpoint = step.checkpoint; traces = traced trace step.traces; at = ending restores step.at }

  abbrev pub outside : Restore Reg → Option (List ℕ) → Run Reg → Run Reg
  outside restores trace r = record {
    steps = map (step_outside restores trace) r.steps;
    refusal = option_map (refused_through trace) r.refusal;
    view = ending restores r.view;
  }

  -- under a frame, and with a trace for each refusal inside it
  unfoldable pub under : Reg → FrameShape → Option (List ℕ) → Action Reg → Action Reg
  under fresh frame trace inner v = outside (restored_by frame v) trace (inner (beginning fresh frame v))

  -- a run that writes nothing; its checkpoints stay
  abbrev pub silent_step : Step Reg → Step Reg
  silent_step step = record step { piece = [] }

  abbrev pub silent : Run Reg → Run Reg
  silent r = record { steps = map silent_step r.steps; refusal = r.refusal; view = r.view }

  -- one of a list of actions; past the last one there is nothing to render
  abbrev pub part_at : List (Action Reg) → ℕ → Action Reg
  part_at [] place = done
  part_at (a ∷ bs) zero = a
  part_at (a ∷ bs) (suc place) = part_at bs place
