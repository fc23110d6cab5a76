-- The laws of expressions.
use Rattle.std.specs.Prelude.{◌≡◌, true, false, Some, Ok, unwrap_or}
use Rattle.std.specs.Result.{result_ok}
use Rattle.liquid_scalar.specs.meaning.Scalar.{Scal}
use Rattle.liquid_value.specs.meaning.Tree.{Tree, nil}
use Rattle.liquid_paths.specs.meaning.Walk.{Path}
use Rattle.liquid_runtime.specs.meaning.Leniency.{is_lenient, includes_indexes}
use Rattle.liquid_runtime.specs.meaning.View.{View}
use Rattle.liquid_runtime.specs.meaning.Erased.{erase}
use Rattle.liquid_plugins.specs.meaning.Expression.{ExpressionShape, Indexes}
use Rattle.liquid_plugins.specs.meaning.Evaluation.{evaluate, try_evaluate, named_path, try_named_path}

-- in a strict view the call that can fail gives a value exactly if the other one does, and then the same one
abbrev pub EvaluateAgrees : Type 0 → Type 0
EvaluateAgrees Reg =
    (v : View Reg) (e : ExpressionShape) → is_lenient v.lenient ≡ false → result_ok (evaluate v e) ≡ try_evaluate v e

-- in any view it gives the value of the other one, if that has one
abbrev pub EvaluateGives : Type 0 → Type 0
EvaluateGives Reg = (v : View Reg) (e : ExpressionShape) (t : Tree) → try_evaluate v e ≡ Some t → evaluate v e ≡ Ok t

-- in a view that is lenient in indexes it always gives a value: that of the other one, or nil if that gives none
abbrev pub LenientEvaluateAgrees : Type 0 → Type 0
LenientEvaluateAgrees Reg =
    (v : View Reg) (e : ExpressionShape) → includes_indexes v.lenient ≡ true → evaluate v e ≡ Ok (unwrap_or (try_evaluate v e) nil)

-- the same for the paths of variables
abbrev pub PathsAgree : Type 0 → Type 0
PathsAgree Reg =
    (v : View Reg) (name : Scal) (indexes : Indexes) → is_lenient v.lenient ≡ false
    → result_ok (named_path v name indexes) ≡ try_named_path v name indexes

abbrev pub PathsGive : Type 0 → Type 0
PathsGive Reg =
    (v : View Reg) (name : Scal) (indexes : Indexes) (path : Path) → try_named_path v name indexes ≡ Some path
    → named_path v name indexes ≡ Ok path

-- an expression has the same result with what a filter sees
abbrev pub EvaluatesErased : Type 0 → Type 0
EvaluatesErased Reg = (v : View Reg) (e : ExpressionShape) → evaluate (erase v) e ≡ evaluate v e
