-- The result of a sandboxed rendering.
use Rattle.std.specs.Prelude.{◌≡◌, map, true, is_some, option_map, Result, unwrap_or}
use Rattle.std.specs.FinMap.{empty}
use Rattle.liquid_error.specs.declared.error.Error.{Error}
use Rattle.liquid_runtime.specs.meaning.Maps.{over}
use Rattle.liquid_runtime.specs.meaning.View.{View}
use Rattle.liquid_runtime.specs.meaning.Emptied.{emptied}
use Rattle.liquid_template.specs.meaning.Run.{Step, Run, Action}
use Rattle.liquid_template.specs.meaning.Sunk.{Sunk}
use Rattle.liquid_template.specs.meaning.Output.{Output}
use Rattle.liquid_template.specs.meaning.Outcome.{Renders, RendersWithin}

-- there is a global frame
abbrev pub HasGlobals : {Reg : Type 0} → View Reg → Type 0
HasGlobals v = is_some v.globals ≡ true

-- a view that results over an emptied outside, as it is over the real one: what was taken away is given back, and the
-- globals are the outside's overlaid by those that are left
abbrev pub over_outside : {Reg : Type 0} → View Reg → View Reg → View Reg
over_outside outside v = record v {
  locals = outside.locals;
  globals = option_map (over (unwrap_or v.globals empty)) outside.globals;
  base = outside.base;
  shown = outside.shown;
  floor = outside.floor;
  interrupt = outside.interrupt;
  register = outside.register;
}

-- the same for a step, and for a run: the pieces, the traces and the refusal stay
abbrev pub step_over_outside : {Reg : Type 0} → View Reg → Step Reg → Step Reg
step_over_outside outside step = record step { at = over_outside outside step.at }

abbrev pub run_over_outside : {Reg : Type 0} → View Reg → Run Reg → Run Reg
run_over_outside outside r = record {
  steps = map (step_over_outside outside) r.steps;
  refusal = r.refusal;
  view = over_outside outside r.view;
}

-- a call that renders in a sandbox: its outcome is that of its run over the outside, and if the outside has globals,
-- also that of its run over the emptied outside
pub record RendersSandboxed {Reg : Type 0} (fresh : Reg) (action : Action Reg) (outside : View Reg) (before after : Sunk) (left : View Reg)
    (answer : Result (Unit {0}) Error) : Type 0 where
  pub renders : Renders (action outside) outside before after left answer
  pub isolated : HasGlobals outside → Renders (run_over_outside outside (action (emptied fresh outside))) outside before after left answer

-- the same for a call that asks a gate, beside what it renders: if the outside has globals, the outcome is also that of
-- the run over the emptied outside
abbrev pub SandboxedApart : {Reg : Type 0} → Reg → Action Reg → View Reg → Output → Output → View Reg → Result (Unit {0}) Error → Type 0
SandboxedApart fresh action outside before after left answer =
    HasGlobals outside → RendersWithin (run_over_outside outside (action (emptied fresh outside))) outside before after left answer

-- interrupt and register are as they were before
pub record Untouched {Reg : Type 0} (before after : View Reg) : Type 0 where
  pub interrupt : after.interrupt ≡ before.interrupt
  pub register : after.register ≡ before.register
