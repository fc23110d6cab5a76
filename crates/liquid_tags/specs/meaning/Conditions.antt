-- Conditions: what each is made of, and whether it holds.
use Rattle.std.specs.Prelude.{ℕ, List, [], ◌∷◌, ◌+◌, Bool, true, false, not, cond, Option, None, Some, Result, Ok}
use Rattle.std.specs.declared.cmp.Ordering.{Ordering}
use Rattle.std.specs.declared.cmp.Ordering.TheVariants as ordering
use Rattle.liquid_error.specs.meaning.Refusal.{Refusal, ok_then}
use Rattle.liquid_value.specs.declared.state.State.TheVariants.{Truthy}
use Rattle.liquid_value.specs.meaning.Tree.{Tree}
use Rattle.liquid_value.specs.meaning.Kind.{query_state}
use Rattle.liquid_value.specs.meaning.Loose.{value_eq}
use Rattle.liquid_value.specs.meaning.Order.{value_cmp}
use Rattle.liquid_runtime.specs.meaning.View.{View}
use Rattle.liquid_plugins.specs.meaning.Evaluation.{evaluate, try_evaluate}
use Rattle.liquid_plugins.specs.meaning.ExpressionOf.{expression_of}
use Rattle.liquid_tags.specs.declared.if_block.condition.Comparison.{Comparison}
use Rattle.liquid_tags.specs.declared.if_block.condition.Comparison.TheVariants as comparison
use Rattle.liquid_tags.specs.declared.if_block.condition.Condition.{Condition}
use Rattle.liquid_tags.specs.declared.if_block.condition.Condition.TheVariants as condition
use Rattle.liquid_tags.specs.declared.if_block.condition.ConditionShape.{ConditionShape}
use Rattle.liquid_tags.specs.declared.if_block.condition.ConditionShape.TheVariants.{Holds, Compares}

-- the shape of a condition
abbrev pub condition_of : Condition → ConditionShape
condition_of (condition.Holds e) = Holds (expression_of e)
condition_of (condition.Compares l op r) = Compares (expression_of l) op (expression_of r)

-- whether there is a value, and it is truthy
abbrev pub is_truthy : Option Tree → Bool
is_truthy None = false
is_truthy (Some t) = query_state t Truthy

-- whether an order is one of those that a comparison accepts
abbrev pub ordered : Comparison → Ordering → Bool
ordered comparison.Less ordering.Less = true
ordered comparison.Greater ordering.Greater = true
ordered comparison.AtMost ordering.Less = true
ordered comparison.AtMost ordering.Equal = true
ordered comparison.AtLeast ordering.Greater = true
ordered comparison.AtLeast ordering.Equal = true
ordered op order = false

-- the same if there may be no order, which no comparison accepts
abbrev pub is_ordered : Comparison → Option Ordering → Bool
is_ordered op None = false
is_ordered op (Some order) = ordered op order

-- how two values compare: loosely equal or not, or by their loose order
abbrev pub compares : Comparison → Tree → Tree → Bool
compares comparison.Equal l r = value_eq l r
compares comparison.Unequal l r = not (value_eq l r)
compares op l r = is_ordered op (value_cmp l r)

-- whether a condition holds; of two values the left one is evaluated first
abbrev pub holds : {Reg : Type 0} → View Reg → ConditionShape → Result Bool Refusal
holds v (Holds e) = Ok (is_truthy (try_evaluate v e))
holds v (Compares l op r) = ok_then (evaluate v l) (λ a. ok_then (evaluate v r) (λ b. Ok (compares op a b)))

-- the part after the first condition that holds, counted from this one on, or the part after them all if none does; the
-- conditions after one that holds are not evaluated
abbrev pub chosen : {Reg : Type 0} → View Reg → ℕ → List ConditionShape → Result ℕ Refusal
chosen v place [] = Ok place
chosen v place (c ∷ cs) = ok_then (holds v c) (λ it_holds. cond it_holds (Ok place) (chosen v (place + 1) cs))
