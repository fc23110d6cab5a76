-- What a filter sees of a view is all that an expression needs.
use Rattle.std.proofs.Common.{◌≡◌, [], ◌∷◌, Option, None, Some, Result, Ok, Err, refl, ap, ◌∙◌, cond, true, false, Bool, ◌&&◌}
use Rattle.std.specs.Prelude.{ok_or, unwrap_or, is_none, option_map, option_and_then}
use Rattle.std.specs.FinMap.{empty, get}
use Rattle.liquid_error.specs.meaning.Refusal.{Refusal}
use Rattle.liquid_runtime.specs.meaning.Maps.{Names, over}
use Rattle.liquid_scalar.specs.meaning.Scalar.{render_scalar}
use Rattle.liquid_value.specs.meaning.Parts.{as_scalar}
use Rattle.liquid_error.specs.meaning.Refusal.{ok_then}
use Rattle.liquid_runtime.specs.meaning.Erased.{erase, without_names}
use Rattle.liquid_runtime.specs.meaning.Leniency.{is_lenient}
use Rattle.liquid_runtime.specs.meaning.View.{View}
use Rattle.liquid_runtime.specs.meaning.NamesSeen.{upper_names, floor_names, is_sealed}
use Rattle.liquid_runtime.specs.meaning.Lookup.{try_path, found, or_nil, sealed_answer, unknown_variable}
use Rattle.liquid_paths.specs.meaning.Walk.{Path, walk, find_after}
use Rattle.liquid_plugins.specs.meaning.Expression.{ExpressionShape, literal, variable, Indexes, no_indexes, index}
use Rattle.liquid_plugins.specs.meaning.Evaluation.{at_path, evaluate, path_of, expected_scalar, try_evaluate, try_path_of}

shown_erased : (b : Bool) (globals : Option Names) → cond b (unwrap_or (cond b globals (without_names globals)) empty) empty ≡ cond b
    (unwrap_or globals empty) empty
shown_erased true globals = refl
shown_erased false globals = refl

and_then-same : {A B : Type 0} (o : Option A) (f g : A → Option B) → ((x : A) → f x ≡ g x) → option_and_then f o ≡ option_and_then g o
and_then-same None f g e = refl
and_then-same (Some x) f g e = e x

module _ {Reg : Type 0} where
  pub upper_erased : (v : View Reg) → upper_names (erase v) ≡ upper_names v
  upper_erased v = ap (λ m. over v.locals (over m v.base)) (shown_erased v.shown v.globals)

  pub found_erased : (v : View Reg) (path : Path) → found (erase v) path ≡ found v path
  found_erased v [] = refl
  found_erased v (name ∷ path) =
      ap (λ (upper : Names). or_nil (is_lenient v.lenient) (ok_then (ok_or (get (over upper (floor_names v)) (render_scalar name))
      (unknown_variable (render_scalar name)))
      (λ t. sealed_answer (is_sealed v.floor && is_none (get upper (render_scalar name))) (render_scalar name)
      (find_after (name ∷ []) t path))))
      (upper_erased v)

  at_erased : (v : View Reg) (r : Result Path Refusal) → at_path (erase v) r ≡ at_path v r
  at_erased v (Ok path) = found_erased v path
  at_erased v (Err refusal) = refl

  mutual
    pub evaluate_erased : (v : View Reg) (e : ExpressionShape) → evaluate (erase v) e ≡ evaluate v e
    evaluate_erased v (literal t) = refl
    evaluate_erased v (variable name is) =
        ap (λ r. at_path (erase v) (ok_then r (λ path. Ok (name ∷ path)))) (path_erased v is)
        ∙ at_erased v (ok_then (path_of v is) (λ path. Ok (name ∷ path)))

    path_erased : (v : View Reg) (is : Indexes) → path_of (erase v) is ≡ path_of v is
    path_erased v no_indexes = refl
    path_erased v (index e es) =
        ap (λ r. ok_then r (λ t. ok_then (ok_or (as_scalar t) (expected_scalar t))
        (λ scalar. ok_then (path_of (erase v) es) (λ path. Ok (scalar ∷ path))))) (evaluate_erased v e)
        ∙ ap (λ q. ok_then (evaluate v e) (λ t. ok_then (ok_or (as_scalar t) (expected_scalar t))
        (λ scalar. ok_then q (λ path. Ok (scalar ∷ path))))) (path_erased v es)

  try_path_erased : (v : View Reg) (path : Path) → try_path (erase v) path ≡ try_path v path
  try_path_erased v [] = refl
  try_path_erased v (name ∷ path) =
      ap (λ (upper : Names). option_and_then (λ t. walk t path) (get (over upper (floor_names v)) (render_scalar name))) (upper_erased v)

  mutual
    pub try_erased : (v : View Reg) (e : ExpressionShape) → try_evaluate (erase v) e ≡ try_evaluate v e
    try_erased v (literal t) = refl
    try_erased v (variable name is) =
        ap (λ p. option_and_then (try_path (erase v)) (option_map (λ path. name ∷ path) p)) (try_indexes_erased v is)
        ∙ and_then-same (option_map (λ path. name ∷ path) (try_path_of v is)) (try_path (erase v)) (try_path v) (try_path_erased v)

    try_indexes_erased : (v : View Reg) (is : Indexes) → try_path_of (erase v) is ≡ try_path_of v is
    try_indexes_erased v no_indexes = refl
    try_indexes_erased v (index e es) =
        ap (λ r. option_and_then (λ t. option_and_then (λ scalar. option_map (λ path. scalar ∷ path) (try_path_of (erase v) es))
        (as_scalar t)) r) (try_erased v e)
        ∙ ap (λ q. option_and_then (λ t. option_and_then (λ scalar. option_map (λ path. scalar ∷ path) q) (as_scalar t)) (try_evaluate v e))
        (try_indexes_erased v es)
