-- The tags `include` and `render`: what they read, and the partial that they render.
use Rattle.std.specs.Prelude.{ℕ, List, [], ◌∷◌, ◌++◌, codes, Some, map, string_bytes, String, ok_or, Result, Ok}
use Rattle.std.specs.declared.alloc.Global.{Global}
use Rattle.std.specs.FinMap.{empty, insert}
use Rattle.liquid_error.specs.meaning.Refusal.{Refusal, ok_then}
use Rattle.liquid_scalar.specs.meaning.Scalar.{render_scalar}
use Rattle.liquid_value.specs.meaning.Tree.{Tree}
use Rattle.liquid_value.specs.meaning.Parts.{as_scalar}
use Rattle.liquid_runtime.specs.meaning.Maps.{Names}
use Rattle.liquid_runtime.specs.meaning.View.{View}
use Rattle.liquid_runtime.specs.meaning.Frames.{FrameShape, stack_frame, sandboxed_frame}
use Rattle.liquid_plugins.specs.declared.expression.Expression.{Expression}
use Rattle.liquid_plugins.specs.meaning.Expression.{ExpressionShape}
use Rattle.liquid_plugins.specs.meaning.Evaluation.{evaluate}
use Rattle.liquid_plugins.specs.meaning.ExpressionOf.{expression_of}
use Rattle.liquid_plugins.specs.meaning.Turns.{TurnShape, partial_turn}
use Rattle.liquid_tags.specs.meaning.Series.{expected}
use Rattle.liquid_tags.specs.declared.partial_call.call.Call.{Call}
use Rattle.liquid_tags.specs.declared.partial_call.call.Inclusion.{Inclusion}
use Rattle.liquid_tags.specs.declared.partial_call.call.Inclusion.TheVariants.{Include, Render}

-- a name with its expression
abbrev pub Pair : Type 0
Pair = List ℕ × ExpressionShape

abbrev pub CallShape : Type 0
CallShape = ExpressionShape × List Pair

abbrev pub pair_of : String Global × Expression → Pair
pair_of p = (string_bytes p.0, expression_of p.1)

abbrev pub call_of : Call → CallShape
call_of c = (expression_of c.name, map pair_of c.pairs.items)

-- the names of pairs with the values of their expressions, over these; of two pairs with one name the later wins
abbrev pub bound : {Reg : Type 0} → View Reg → Names → List Pair → Result Names Refusal
bound v names [] = Ok names
bound v names (p ∷ ps) = ok_then (evaluate v p.1) (λ t. bound v (insert names p.0 t) ps)

-- the scalar that names a partial
abbrev pub partial_name : Tree → Result (List ℕ) Refusal
partial_name t = ok_then (ok_or (as_scalar t) (expected (codes "Partial name expected") t)) (λ x. Ok (render_scalar x))

-- `include` shows its pairs over the names that are seen, `render` shows only its pairs; the frame has the partial's
-- name
abbrev pub frame_for : Inclusion → Names → List ℕ → FrameShape
frame_for Include names name = stack_frame names (Some name)
frame_for Render names name = sandboxed_frame names (Some name)

abbrev pub word_of : Inclusion → List ℕ
word_of Include = codes "include"
word_of Render = codes "render"

-- the partial, with the trace of the tag
abbrev pub inclusion_turn : Inclusion → List ℕ → Names → TurnShape
inclusion_turn i name names = partial_turn name (frame_for i names name) (Some (word_of i ++ (codes " " ++ name)))

-- the tag's turn: the name is evaluated before the pairs, and the pairs from left to right
abbrev pub included : {Reg : Type 0} → Inclusion → ExpressionShape → List Pair → View Reg → Result TurnShape Refusal
included i e ps v =
    ok_then (evaluate v e) (λ t. ok_then (partial_name t) (λ name. ok_then (bound v empty ps) (λ names. Ok (inclusion_turn i name names))))
