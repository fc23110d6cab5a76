-- Checkpoints count turns: there is one before each turn, and no other. So a bound on the checkpoints that pass is one on turns.
use Rattle.std.specs.Prelude.{◌≡◌, ℕ, suc, ◌+◌, List, Option, None, Some, Result}
use Rattle.liquid_error.specs.meaning.Refusal.{Refusal}
use Rattle.liquid_value.specs.meaning.Tree.{Tree}
use Rattle.liquid_runtime.specs.meaning.Frames.{FrameShape, beginning}
use Rattle.liquid_runtime.specs.meaning.View.{View}
use Rattle.liquid_runtime.specs.meaning.Written.{with_written}
use Rattle.liquid_plugins.specs.meaning.Turns.{NodeMeaning}
use Rattle.liquid_template.specs.meaning.Run.{Run, Action, checkpoints}
use Rattle.liquid_template.specs.meaning.Actions.{and_then, done, refuses, silent, under, writes, writes_value}
use Rattle.liquid_template.specs.meaning.Nodes.{Setting, answered, turns}

-- the checkpoints of a run
abbrev pub asked_in : {Reg : Type 0} → Run Reg → ℕ
asked_in r = checkpoints r.steps

-- those of what comes after a run that ended in this way: what is refused goes no further
abbrev pub asked_after : {Reg : Type 0} → Option Refusal → View Reg → Action Reg → ℕ
asked_after None v next = asked_in (next v)
asked_after (Some refusal) v next = 0

-- each turn of a node has one checkpoint, beside those of what it renders and of the turns after it
pub record OneEachTurn {Reg F T P B Q N R : Type 0} (s : Setting Reg F T P B Q) (m : NodeMeaning N R Reg) : Type 0 where
  pub turn : (partials : List ℕ → Action Reg) (n : N) (parts : List (Action Reg)) (left : ℕ) (progress : R) (v : View Reg) →
      asked_in (turns s partials m n parts (suc left) progress v) ≡ 1 + asked_in (answered s partials m n parts
      (m.takes n progress v).answer (m.takes n progress v).progress (turns s partials m n parts left)
      (with_written (m.takes n progress v).written v))
  pub none : (partials : List ℕ → Action Reg) (n : N) (parts : List (Action Reg)) (progress : R) (v : View Reg) →
      asked_in (turns s partials m n parts 0 progress v) ≡ 0

-- pieces, values and refusals have none, and what is rendered one after the other has those of both
pub record NoneElsewhere (Reg : Type 0) : Type 0 where
  pub nothing : (v : View Reg) → asked_in (done v) ≡ 0
  pub refusals : (refusal : Refusal) (v : View Reg) → asked_in (refuses refusal v) ≡ 0
  pub pieces : (piece : List ℕ) (v : View Reg) → asked_in (writes piece v) ≡ 0
  pub values : (value : Result Tree Refusal) (v : View Reg) → asked_in (writes_value value v) ≡ 0
  pub joined : (r : Run Reg) (next : Action Reg) → asked_in (and_then r next) ≡ asked_in r + asked_after r.refusal r.view next

-- a frame, a trace and a capture keep them
pub record Kept (Reg : Type 0) : Type 0 where
  pub framed : (fresh : Reg) (frame : FrameShape) (trace : Option (List ℕ)) (inner : Action Reg) (v : View Reg) →
      asked_in (under fresh frame trace inner v) ≡ asked_in (inner (beginning fresh frame v))
  pub captured : (r : Run Reg) → asked_in (silent r) ≡ asked_in r
