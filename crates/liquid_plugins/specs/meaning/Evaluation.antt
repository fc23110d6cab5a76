-- The value of an expression in a view.
use Rattle.std.specs.Prelude.{◌≡◌, [], ◌∷◌, codes, cond, Option, Some, Result, Ok, Err, IfOk, ok_or, option_map, option_and_then}
use Rattle.liquid_error.specs.meaning.Refusal.{Refusal, plain, with_context}
use Rattle.liquid_scalar.specs.meaning.Scalar.{Scal}
use Rattle.liquid_value.specs.meaning.Tree.{Tree, nil}
use Rattle.liquid_value.specs.meaning.Parts.{as_scalar}
use Rattle.liquid_value.specs.meaning.Render.{source}
use Rattle.liquid_error.specs.meaning.Refusal.{ok_then}
use Rattle.liquid_runtime.specs.meaning.Leniency.{includes_indexes}
use Rattle.liquid_runtime.specs.meaning.View.{View}
use Rattle.liquid_runtime.specs.meaning.Lookup.{try_path, found}
use Rattle.liquid_paths.specs.meaning.Walk.{Path}
use Rattle.liquid_plugins.specs.meaning.Expression.{ExpressionShape, literal, variable, Indexes, no_indexes, index}

-- the refusal of an index that is not a scalar
abbrev pub expected_scalar : Tree → Refusal
expected_scalar t = with_context (codes "found") (source t) (plain (codes "Expected scalar"))

-- the value at a path; if an index of it is refused, nil in a view that is lenient in indexes
abbrev pub at_path : {Reg : Type 0} → View Reg → Result Path Refusal → Result Tree Refusal
at_path v (Ok path) = found v path
at_path v (Err refusal) = cond (includes_indexes v.lenient) (Ok nil) (Err refusal)

-- a literal is its value; a variable is what its path gives, after its indexes are evaluated from left to right
abbrev mutual
  pub evaluate : {Reg : Type 0} → View Reg → ExpressionShape → Result Tree Refusal
  evaluate v (literal t) = Ok t
  evaluate v (variable name indexes) = at_path v (ok_then (path_of v indexes) (λ path. Ok (name ∷ path)))

  pub path_of : {Reg : Type 0} → View Reg → Indexes → Result Path Refusal
  path_of v no_indexes = Ok []
  path_of v (index e es) =
      ok_then (evaluate v e) (λ t. ok_then (ok_or (as_scalar t) (expected_scalar t))
      (λ scalar. ok_then (path_of v es) (λ path. Ok (scalar ∷ path))))

-- the same without the reason of a failure
abbrev mutual
  pub try_evaluate : {Reg : Type 0} → View Reg → ExpressionShape → Option Tree
  try_evaluate v (literal t) = Some t
  try_evaluate v (variable name indexes) = option_and_then (try_path v) (option_map (λ path. name ∷ path) (try_path_of v indexes))

  pub try_path_of : {Reg : Type 0} → View Reg → Indexes → Option Path
  try_path_of v no_indexes = Some []
  try_path_of v (index e es) =
      option_and_then (λ t. option_and_then (λ scalar. option_map (λ path. scalar ∷ path) (try_path_of v es)) (as_scalar t))
      (try_evaluate v e)

-- the path of a name and indexes
abbrev pub named_path : {Reg : Type 0} → View Reg → Scal → Indexes → Result Path Refusal
named_path v name indexes = ok_then (path_of v indexes) (λ path. Ok (name ∷ path))

abbrev pub try_named_path : {Reg : Type 0} → View Reg → Scal → Indexes → Option Path
try_named_path v name indexes = option_map (λ path. name ∷ path) (try_path_of v indexes)

-- a call that fails only when out of memory has found what is meant, or nothing if nothing is meant
abbrev pub Finds : {A B E : Type 0} → (A → B) → Result (Option A) E → Option B → Type 0
Finds of result meant = IfOk result (λ found. option_map of found ≡ meant)
