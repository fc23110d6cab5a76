-- The parts that `if`, `unless` and `case` choose. Parts are counted from 0; a part after the last one is empty.
use Rattle.std.specs.Prelude.{ℕ, List, [], ◌∷◌, ◌+◌, Bool, false, true, cond, map, Result, Ok}
use Rattle.liquid_error.specs.meaning.Refusal.{Refusal, ok_then}
use Rattle.liquid_value.specs.meaning.Tree.{Tree}
use Rattle.liquid_runtime.specs.meaning.View.{View}
use Rattle.liquid_plugins.specs.meaning.Evaluation.{evaluate}
use Rattle.liquid_plugins.specs.meaning.Expression.{ExpressionShape}
use Rattle.liquid_plugins.specs.meaning.ExpressionOf.{expression_of}
use Rattle.liquid_std.specs.declared.conditions.branches.Case.{Case}
use Rattle.liquid_std.specs.declared.conditions.branches.CaseShape.{CaseShape}
use Rattle.liquid_std.specs.declared.conditions.condition.ConditionShape.{ConditionShape}
use Rattle.liquid_std.specs.declared.conditions.equality.Equality.{Equality}
use Rattle.liquid_std.specs.meaning.conditions.Conditions.{holds}
use Rattle.liquid_std.specs.meaning.conditions.Equality.{equal_by}
use Rattle.liquid_std.specs.meaning.conditions.Values.{expressions_of}

-- the shape of a `case`
abbrev pub case_of : Case → CaseShape
case_of c = record { value = expression_of c.value; alternatives = map expressions_of c.alternatives.items }

-- the part after the first condition that holds, where the first condition has this part, and the part after them all if
-- none does; what follows one that holds is not evaluated
abbrev pub part_if : {Reg : Type 0} → Equality → View Reg → ℕ → List ConditionShape → Result ℕ Refusal
part_if equality v part [] = Ok part
part_if equality v part (c ∷ cs) =
    ok_then (holds equality v c) (λ it_holds. cond it_holds (Ok part) (part_if equality v (part + 1) cs))

-- the same, but that the first condition must not hold
abbrev pub part_unless : {Reg : Type 0} → Equality → View Reg → List ConditionShape → Result ℕ Refusal
part_unless equality v [] = Ok 0
part_unless equality v (c ∷ cs) = ok_then (holds equality v c) (λ it_holds. cond it_holds (part_if equality v 1 cs) (Ok 0))

-- whether a value equals one of these; what follows one that is equal is not evaluated
abbrev pub equals_one : {Reg : Type 0} → Equality → View Reg → Tree → List ExpressionShape → Result Bool Refusal
equals_one equality v t [] = Ok false
equals_one equality v t (e ∷ es) =
    ok_then (evaluate v e) (λ u. cond (equal_by equality t u) (Ok true) (equals_one equality v t es))

-- the part of the first `when` with an equal value, where the first `when` has this part, and the part after them all if
-- there is none
abbrev pub part_when : {Reg : Type 0} → Equality → View Reg → Tree → ℕ → List (List ExpressionShape) → Result ℕ Refusal
part_when equality v t part [] = Ok part
part_when equality v t part (es ∷ more) =
    ok_then (equals_one equality v t es) (λ is_equal. cond is_equal (Ok part) (part_when equality v t (part + 1) more))

-- the part of a `case`, of which part 0 is before the first `when`; its value is evaluated once
abbrev pub part_case : {Reg : Type 0} → Equality → View Reg → CaseShape → Result ℕ Refusal
part_case equality v c = ok_then (evaluate v c.value) (λ t. part_when equality v t 1 c.alternatives)
