-- The result of an isolated rendering.
use Rattle.std.specs.Prelude.{◌≡◌, map, Result}
use Rattle.liquid_error.specs.declared.error.Error.{Error}
use Rattle.liquid_runtime.specs.meaning.View.{View}
use Rattle.liquid_runtime.specs.meaning.Emptied.{emptied}
use Rattle.liquid_template.specs.meaning.Run.{Step, Run, Action}
use Rattle.liquid_template.specs.meaning.Sunk.{Sunk}
use Rattle.liquid_template.specs.meaning.Output.{Output}
use Rattle.liquid_template.specs.meaning.Outcome.{Renders, RendersWithin}

-- a view that results over an emptied outside, as it is over the real one: what was taken away is given back, the
-- globals too
abbrev pub given_back : {Reg : Type 0} → View Reg → View Reg → View Reg
given_back outside v = record v {
  locals = outside.locals;
  globals = outside.globals;
  base = outside.base;
  shown = outside.shown;
  floor = outside.floor;
  interrupt = outside.interrupt;
  register = outside.register;
}

-- the same for a step, and for a run: the pieces, the traces and the refusal stay
abbrev pub step_given_back : {Reg : Type 0} → View Reg → Step Reg → Step Reg
step_given_back outside step = record step { at = given_back outside step.at }

abbrev pub run_given_back : {Reg : Type 0} → View Reg → Run Reg → Run Reg
run_given_back outside r = record {
  steps = map (step_given_back outside) r.steps;
  refusal = r.refusal;
  view = given_back outside r.view;
}

-- a call that renders in isolation: its outcome is that of its run over the outside, and also that of its run over the
-- emptied outside, given back
pub record RendersIsolated {Reg : Type 0} (fresh : Reg) (action : Action Reg) (outside : View Reg) (before after : Sunk) (left : View Reg)
    (answer : Result (Unit {0}) Error) : Type 0 where
  pub renders : Renders (action outside) outside before after left answer
  pub isolated : Renders (run_given_back outside (action (emptied fresh outside))) outside before after left answer

-- the same for a call that asks a gate, beside what it renders: the outcome is also that of the run over the emptied
-- outside, given back
abbrev pub IsolatedApart : {Reg : Type 0} → Reg → Action Reg → View Reg → Output → Output → View Reg → Result (Unit {0}) Error → Type 0
IsolatedApart fresh action outside before after left answer =
    RendersWithin (run_given_back outside (action (emptied fresh outside))) outside before after left answer

-- only index variables may have changed
abbrev pub OnlyIndexChanges : {Reg : Type 0} → View Reg → View Reg → Type 0
OnlyIndexChanges before after = after ≡ record before { index = after.index }
