-- What does not depend on hidden globals, for the proofs that a node is discreet.
use Rattle.std.proofs.Common.{◌≡◌, sym, ap, ◌∙◌, Result}
use Rattle.std.specs.FinMap.{empty}
use Rattle.liquid_error.specs.meaning.Refusal.{Refusal}
use Rattle.liquid_runtime.specs.meaning.Maps.{Names}
use Rattle.liquid_runtime.proofs.MapLaws.{empty-over}
use Rattle.liquid_runtime.specs.meaning.View.{View}
use Rattle.liquid_plugins.specs.meaning.Expression.{ExpressionShape}
use Rattle.liquid_plugins.specs.meaning.Evaluation.{evaluate, try_evaluate}
use Rattle.liquid_plugins.specs.meaning.Discreet.{hiding, overlaid}
use Rattle.liquid_plugins.specs.meaning.Turning.{answers}
use Rattle.liquid_plugins.proofs.ErasedLemmas.{evaluate_erased, try_erased}

module _ {Reg : Type 0} where
  -- an expression does not see what is hidden
  pub evaluate_hidden : (g : Names) (v : View Reg) (e : ExpressionShape) → evaluate (hiding g v) e ≡ evaluate (hiding empty v) e
  evaluate_hidden g v e = sym (evaluate_erased (hiding g v) e) ∙ evaluate_erased (hiding empty v) e

  pub try_hidden : (g : Names) (v : View Reg) (e : ExpressionShape) → try_evaluate (hiding g v) e ≡ try_evaluate (hiding empty v) e
  try_hidden g v e = sym (try_erased (hiding g v) e) ∙ try_erased (hiding empty v) e

  -- nor does a result that leaves the globals as they are, whatever else of the view it changes
  pub answers_hide : {A P : Type 0} (answer : Result A Refusal) (p : P) (change : View Reg → View Reg)
      → ((g : Names) (v : View Reg) → change (hiding g v) ≡ hiding g (change v))
      → (g : Names) (v : View Reg) → answers answer p (change (hiding g v)) ≡ overlaid g (answers answer p (change (hiding empty v)))
  answers_hide answer p change keeps g v =
      ap (answers answer p) (keeps g v)
      ∙ ap (λ m. answers answer p (hiding m (change v))) (sym (empty-over g))
      ∙ ap (λ w. overlaid g (answers answer p w)) (sym (keeps empty v))
