-- The result of rendering: a finite list of steps and an end.
use Rattle.std.specs.Prelude.{ℕ, ◌+◌, List, [], ◌∷◌, Bool, true, false, Option, None, Some, Result, Ok, Err}
use Rattle.std.specs.List.{flat_map}
use Rattle.liquid_error.specs.meaning.Refusal.{Refusal, Note}
use Rattle.liquid_runtime.specs.meaning.View.{View}

-- a piece of text, or the checkpoint before a turn, whose piece is empty; the traces that are open there, innermost
-- first, and the view at that moment, as it would be left if all frames inside the run ended there
pub record Step (Reg : Type 0) : Type 0 where
  pub piece : List ℕ
  pub checkpoint : Bool
  pub traces : List Note
  pub at : View Reg

-- the steps in order, the refusal that ends them, if there is one, and the view at the end
pub record Run (Reg : Type 0) : Type 0 where
  pub steps : List (Step Reg)
  pub refusal : Option Refusal
  pub view : View Reg

-- the result of rendering something, from the view that it begins in
abbrev pub Action : Type 0 → Type 0
Action Reg = View Reg → Run Reg

-- the pieces of steps, joined
abbrev pub pieces : {Reg : Type 0} → List (Step Reg) → List ℕ
pieces steps = flat_map (λ step. step.piece) steps

-- all pieces of a run, joined
abbrev pub written : {Reg : Type 0} → Run Reg → List ℕ
written r = pieces r.steps

-- the number of checkpoints among steps
abbrev pub one_if : Bool → ℕ
one_if true = 1
one_if false = 0

abbrev pub checkpoints : {Reg : Type 0} → List (Step Reg) → ℕ
checkpoints [] = 0
checkpoints (step ∷ steps) = one_if step.checkpoint + checkpoints steps

-- the text of a run, if it has no refusal, or the refusal
abbrev pub whole_text : {Reg : Type 0} → Run Reg → Result (List ℕ) Refusal
whole_text r = elim r.refusal [ None ↦ Ok (written r) | Some refusal ↦ Err refusal ]
