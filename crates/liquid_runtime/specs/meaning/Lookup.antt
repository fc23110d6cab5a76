-- What a path gives in a view: its first index is a name, and the rest is a walk from the name's value.
use Rattle.std.specs.Prelude.{ℕ, List, [], ◌∷◌, codes, Bool, cond, Option, None, Result, Ok, Err, ok_or, option_and_then}
use Rattle.liquid_error.specs.meaning.Refusal.{Refusal, plain, with_context}
use Rattle.liquid_scalar.specs.meaning.Scalar.{render_scalar}
use Rattle.liquid_value.specs.meaning.Tree.{Tree, nil}
use Rattle.liquid_error.specs.meaning.Refusal.{ok_then}
use Rattle.liquid_runtime.specs.meaning.View.{View}
use Rattle.liquid_runtime.specs.meaning.Leniency.{is_lenient}
use Rattle.liquid_runtime.specs.meaning.NamesSeen.{lookup, comes_from_seal}
use Rattle.liquid_paths.specs.meaning.Walk.{Path, walk, find_after}

-- the value of a path, if it has one
abbrev pub try_path : {Reg : Type 0} → View Reg → Path → Option Tree
try_path v [] = None
try_path v (name ∷ path) = option_and_then (λ t. walk t path) (lookup v (render_scalar name))

-- the refusal of a name that is not seen
abbrev pub unknown_variable : List ℕ → Refusal
unknown_variable name = with_context (codes "requested variable") name (plain (codes "Unknown variable"))

-- a sandboxed frame says nothing about its own names' values: their refusals are those of the name
abbrev pub sealed_answer : Bool → List ℕ → Result Tree Refusal → Result Tree Refusal
sealed_answer is_own name (Ok t) = Ok t
sealed_answer is_own name (Err refusal) = Err (cond is_own (unknown_variable name) refusal)

-- the value of a path, or the refusal of the name, or of the first index that has nothing at it; the empty path is
-- refused as the name `nil`
abbrev pub strictly_found : {Reg : Type 0} → View Reg → Path → Result Tree Refusal
strictly_found v [] = Err (unknown_variable (codes "nil"))
strictly_found v (name ∷ path) =
    ok_then (ok_or (lookup v (render_scalar name)) (unknown_variable (render_scalar name)))
    (λ t. sealed_answer (comes_from_seal v (render_scalar name)) (render_scalar name) (find_after (name ∷ []) t path))

-- if the view is lenient, nil in place of the refusal
abbrev pub or_nil : Bool → Result Tree Refusal → Result Tree Refusal
or_nil lenient (Ok t) = Ok t
or_nil lenient (Err refusal) = cond lenient (Ok nil) (Err refusal)

-- what a path gives in a view
abbrev pub found : {Reg : Type 0} → View Reg → Path → Result Tree Refusal
found v path = or_nil (is_lenient v.lenient) (strictly_found v path)
