-- Literals and brackets without a fault.
use Rattle.std.proofs.Common.{◌≡◌, ℕ, ◌<◌, List, Some, None, sym, ap, ◌∙◌}
use Rattle.std.specs.Prelude.{if◌then◌else◌}
use Rattle.std.proofs.lemmas.Bool.{lt-ltb}
use Rattle.liquid_grammar.specs.meaning.Faults.{deep_fault, literal_fault, value_fault, nested_too_deep}
use Rattle.liquid_grammar.specs.meaning.Kinds.{literal_kind, value_kind}
use Rattle.liquid_grammar.specs.meaning.Literals.{Literal}
use Rattle.liquid_grammar.specs.meaning.Values.{Value, literal_value, variable_value, no_index, more_indexes}
use Rattle.liquid_value.specs.declared.value.Value as value
use Rattle.liquid_value.specs.meaning.View.{view}
use Rattle.liquid_plugins.specs.declared.expression.Expression as code
use Rattle.liquid_plugins.specs.declared.expression.Expression.TheVariants.{Literal as LiteralExpression, rolls-Literal}
use Rattle.liquid_plugins.specs.meaning.Expression.{ExpressionShape, literal}
use Rattle.liquid_plugins.specs.meaning.ExpressionOf.{expression_of, expression_step}

-- a bracket inside fewer open ones than the limit
pub not_deep : (depth : ℕ) (place : List ℕ) → depth < 100 → deep_fault depth place ≡ None
not_deep depth place few = ap (λ b. if b then None else Some (nested_too_deep, place)) (lt-ltb depth 100 few)

-- the literal that a value without a fault is
pub literal_fine : (v : Value) (l : Literal) → literal_kind l ≡ value_kind v → value_fault v ≡ None → (place : List ℕ)
    × (literal_fault place l ≡ None)
literal_fine (literal_value place following m) l is fine = let same : l ≡ m = cc in (place, ap (literal_fault place) same ∙ fine)
literal_fine (variable_value place following name no_index) l is fine = cc
literal_fine (variable_value place following name (more_indexes i more)) l is fine = cc

-- a literal of the program
pub literal_built : (v : value.Value) → expression_of (LiteralExpression v) ≡ literal (view v)
literal_built v = ap expression_of (sym (rolls-Literal v)) ∙ code.fold-roll-Expression ExpressionShape expression_step _
