-- Checkpoints count turns.
use Rattle.std.proofs.Common.{◌≡◌, ℕ, suc, ◌+◌, List, Option, None, Some, Result, Ok, Err, refl, arith}
use Rattle.liquid_error.specs.meaning.Refusal.{Refusal}
use Rattle.liquid_value.specs.meaning.Tree.{Tree}
use Rattle.liquid_runtime.specs.meaning.Frames.{FrameShape, beginning, restored_by}
use Rattle.liquid_runtime.specs.meaning.View.{View}
use Rattle.liquid_runtime.specs.meaning.Written.{with_written}
use Rattle.liquid_plugins.specs.meaning.Turns.{NodeMeaning}
use Rattle.liquid_template.specs.meaning.Run.{Run, Action}
use Rattle.liquid_template.specs.meaning.Actions.{goes_on, under, writes_value}
use Rattle.liquid_template.specs.meaning.Nodes.{Setting, answered, turns}
use Rattle.liquid_template.specs.laws.Checkpoints.{OneEachTurn, NoneElsewhere, Kept, asked_after, asked_in}
use Rattle.liquid_template.proofs.Joins.{checkpoints-append, checkpoints-outside}
use Rattle.liquid_template.proofs.Capturing.{checkpoints-silent}

and_zero : (n : ℕ) → n ≡ n + 0
and_zero n = omega arith

module _ {Reg : Type 0} where
  goes_on_asked : (o : Option Refusal) (r : Run Reg) (next : Action Reg)
      → asked_in (goes_on o r next) ≡ asked_in r + asked_after o r.view next
  goes_on_asked None r next = checkpoints-append r.steps (next r.view).steps
  goes_on_asked (Some refusal) r next = and_zero (asked_in r)

  value_asks_nothing : (value : Result Tree Refusal) (v : View Reg) → asked_in (writes_value value v) ≡ 0
  value_asks_nothing (Ok t) v = refl
  value_asks_nothing (Err refusal) v = refl

  under_asked : (fresh : Reg) (frame : FrameShape) (trace : Option (List ℕ)) (inner : Action Reg) (v : View Reg) →
      asked_in (under fresh frame trace inner v) ≡ asked_in (inner (beginning fresh frame v))
  unfolding under
  under_asked fresh frame trace inner v = checkpoints-outside (restored_by frame v) trace (inner (beginning fresh frame v)).steps

  pub none_elsewhere : NoneElsewhere Reg
  none_elsewhere = record {
    nothing = λ v. refl;
    refusals = λ refusal v. refl;
    pieces = λ piece v. refl;
    values = value_asks_nothing;
    joined = λ r next. goes_on_asked r.refusal r next;
  }

  pub kept : Kept Reg
  kept = record { framed = under_asked; captured = λ r. checkpoints-silent r.steps }

module _ {Reg F T P B Q N R : Type 0} (s : Setting Reg F T P B Q) (m : NodeMeaning N R Reg) where
  one_turn : (partials : List ℕ → Action Reg) (n : N) (parts : List (Action Reg)) (left : ℕ) (progress : R) (v : View Reg) →
      asked_in (turns s partials m n parts (suc left) progress v) ≡ 1 + asked_in (answered s partials m n parts
      (m.takes n progress v).answer (m.takes n progress v).progress (turns s partials m n parts left)
      (with_written (m.takes n progress v).written v))
  unfolding turns
  one_turn partials n parts left progress v = refl

  no_turn : (partials : List ℕ → Action Reg) (n : N) (parts : List (Action Reg)) (progress : R) (v : View Reg)
      → asked_in (turns s partials m n parts 0 progress v) ≡ 0
  unfolding turns
  no_turn partials n parts progress v = refl

  pub each_turn : OneEachTurn s m
  each_turn = record { turn = one_turn; none = no_turn }
