-- Conditions: what each is made of, and whether it holds.
use Rattle.std.specs.Prelude.{List, [], ◌∷◌, Bool, not, cond, map, Result, Ok}
use Rattle.liquid_error.specs.meaning.Refusal.{Refusal, ok_then}
use Rattle.liquid_value.specs.meaning.Tree.{Tree}
use Rattle.liquid_runtime.specs.meaning.View.{View}
use Rattle.liquid_plugins.specs.meaning.Evaluation.{evaluate, try_evaluate}
use Rattle.liquid_plugins.specs.meaning.ExpressionOf.{expression_of}
use Rattle.liquid_tags.specs.declared.if_block.condition.Comparison.{Comparison}
use Rattle.liquid_tags.specs.declared.if_block.condition.Comparison.TheVariants as comparison
use Rattle.liquid_tags.specs.meaning.Conditions.{compares, is_truthy}
use Rattle.liquid_std.specs.declared.conditions.condition.Condition.{Condition}
use Rattle.liquid_std.specs.declared.conditions.condition.ConditionShape.{ConditionShape}
use Rattle.liquid_std.specs.declared.conditions.condition.Connective.{Connective}
use Rattle.liquid_std.specs.declared.conditions.condition.Connective.TheVariants.{And, Or}
use Rattle.liquid_std.specs.declared.conditions.condition.Operator.{Operator}
use Rattle.liquid_std.specs.declared.conditions.condition.Operator.TheVariants.{Compares, Contains}
use Rattle.liquid_std.specs.declared.conditions.condition.Test.{Test}
use Rattle.liquid_std.specs.declared.conditions.condition.Test.TheVariants as test
use Rattle.liquid_std.specs.declared.conditions.condition.TestShape.{TestShape}
use Rattle.liquid_std.specs.declared.conditions.condition.TestShape.TheVariants.{Holds, Passes}
use Rattle.liquid_std.specs.declared.conditions.equality.Equality.{Equality}
use Rattle.liquid_std.specs.meaning.conditions.Contained.{contains}
use Rattle.liquid_std.specs.meaning.conditions.Equality.{equal_by}

-- the shape of a condition
abbrev pub test_of : Test → TestShape
test_of (test.Holds e) = Holds (expression_of e)
test_of (test.Passes l op r) = Passes (expression_of l) op (expression_of r)

abbrev pub joined_of : Test × Connective → TestShape × Connective
joined_of t = (test_of t.0, t.1)

abbrev pub condition_of : Condition → ConditionShape
condition_of c = record { joined = map joined_of c.joined.items; last = test_of c.last }

-- how two values compare: equal or not, by an equality, or by their loose order
abbrev pub compares_by : Equality → Comparison → Tree → Tree → Bool
compares_by equality comparison.Equal l r = equal_by equality l r
compares_by equality comparison.Unequal l r = not (equal_by equality l r)
compares_by equality op l r = compares op l r

-- whether two values pass an operator
abbrev pub passes : Equality → Operator → Tree → Tree → Bool
passes equality (Compares op) l r = compares_by equality op l r
passes equality Contains l r = contains l r

-- whether a test holds; of two values the left one is evaluated first
abbrev pub test_holds : {Reg : Type 0} → Equality → View Reg → TestShape → Result Bool Refusal
test_holds equality v (Holds e) = Ok (is_truthy (try_evaluate v e))
test_holds equality v (Passes l op r) =
    ok_then (evaluate v l) (λ a. ok_then (evaluate v r) (λ b. Ok (passes equality op a b)))

-- whether the answer of a test is that of all: `false` before `and`, `true` before `or`
abbrev pub decides : Connective → Bool → Bool
decides And it_holds = not it_holds
decides Or it_holds = it_holds

-- tests, each with what joins it to the rest, and the last one; what follows a test that decides is not evaluated
abbrev pub joined_hold : {Reg : Type 0} → Equality → View Reg → List (TestShape × Connective) → TestShape → Result Bool Refusal
joined_hold equality v [] last = test_holds equality v last
joined_hold equality v (t ∷ ts) last =
    ok_then (test_holds equality v t.0) (λ it_holds. cond (decides t.1 it_holds) (Ok it_holds) (joined_hold equality v ts last))

-- whether a condition holds
abbrev pub holds : {Reg : Type 0} → Equality → View Reg → ConditionShape → Result Bool Refusal
holds equality v c = joined_hold equality v c.joined c.last
