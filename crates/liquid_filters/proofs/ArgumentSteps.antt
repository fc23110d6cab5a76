-- The arguments of a filter, one by one.
use Rattle.std.proofs.Common.{◌≡◌, List, [], ◌∷◌, ◌++◌, Result, Ok, refl, ap, ◌∙◌}
use Rattle.liquid_error.specs.meaning.Refusal.{Refusal, ok_then}
use Rattle.liquid_runtime.specs.meaning.Erased.{erase}
use Rattle.liquid_runtime.specs.meaning.View.{View}
use Rattle.liquid_plugins.specs.meaning.Evaluation.{evaluate}
use Rattle.liquid_plugins.specs.meaning.Expression.{ExpressionShape}
use Rattle.liquid_plugins.proofs.ErasedLemmas.{evaluate_erased}
use Rattle.liquid_filters.specs.meaning.Calls.{Named, call_answer, evaluate_all, evaluate_arguments, evaluate_named}
use Rattle.liquid_filters.specs.meaning.Sense.{FilterSense}
use Rattle.liquid_filters.specs.declared.call.CallShape.{CallShape}
use Rattle.liquid_value.specs.meaning.Tree.{Tree}

-- what follows a front, if nothing fails
abbrev pub following : {A : Type 0} → List A → Result (List A) Refusal → Result (List A) Refusal
following front r = ok_then r (λ xs. Ok (front ++ xs))

-- what a filter sees of a view is all that its arguments need
pub evaluate_all_erased : {Reg : Type 0} (v : View Reg) (es : List ExpressionShape) → evaluate_all (erase v) es ≡ evaluate_all v es
evaluate_all_erased v [] = refl
evaluate_all_erased v (e ∷ es) =
    ap (λ r. ok_then r (λ t. ok_then (evaluate_all (erase v) es) (λ ts. Ok (t ∷ ts)))) (evaluate_erased v e)
    ∙ ap (λ q. ok_then (evaluate v e) (λ t. ok_then q (λ ts. Ok (t ∷ ts)))) (evaluate_all_erased v es)

pub evaluate_named_erased : {Reg : Type 0} (v : View Reg) (ks : List Named) → evaluate_named (erase v) ks ≡ evaluate_named v ks
evaluate_named_erased v [] = refl
evaluate_named_erased v (k ∷ ks) =
    ap (λ r. ok_then r (λ t. ok_then (evaluate_named (erase v) ks) (λ ts. Ok ((k.0, t) ∷ ts)))) (evaluate_erased v k.1)
    ∙ ap (λ q. ok_then (evaluate v k.1) (λ t. ok_then q (λ ts. Ok ((k.0, t) ∷ ts)))) (evaluate_named_erased v ks)

pub evaluate_arguments_erased : {Reg : Type 0} (v : View Reg) (es : List ExpressionShape) (ks : List Named)
    → evaluate_arguments (erase v) es ks ≡ evaluate_arguments v es ks
evaluate_arguments_erased v es ks =
    ap (λ r. ok_then r (λ ts. ok_then (evaluate_named (erase v) ks) (λ us. Ok (record { positional = ts; keyword = us }))))
    (evaluate_all_erased v es)
    ∙ ap (λ q. ok_then (evaluate_all v es) (λ ts. ok_then q (λ us. Ok (record { positional = ts; keyword = us }))))
    (evaluate_named_erased v ks)

-- so it is all that a call needs
pub call_answer_erased : {K Reg : Type 0} (sense : K → FilterSense) (f : CallShape K) (input : Tree) (v : View Reg)
    → call_answer sense f input (erase v) ≡ call_answer sense f input v
call_answer_erased sense f input v = ap (λ r. ok_then r ((sense f.kind).answers input)) (evaluate_arguments_erased v f.positional f.keyword)
