-- The conditions that tokens make.
use Rattle.std.specs.Prelude.{ℕ, List, [], ◌∷◌, codes, cond, bytes_eq, Option, None, Some, option_map, option_and_then, Result, Ok, Err}
use Rattle.liquid_error.specs.declared.place.Place.{Place}
use Rattle.liquid_error.specs.meaning.Refusal.{Refusal, located, ok_then}
use Rattle.liquid_plugins.specs.meaning.Expression.{ExpressionShape}
use Rattle.liquid_parser.specs.meaning.Handed.{Token, Tokens, expect_value, or_unexpected}
use Rattle.liquid_tags.specs.meaning.Asked.{token_expected}
use Rattle.liquid_tags.specs.meaning.ConditionsGiven.{comparison_of}
use Rattle.liquid_std.specs.declared.conditions.condition.ConditionShape.{ConditionShape}
use Rattle.liquid_std.specs.declared.conditions.condition.Connective.{Connective}
use Rattle.liquid_std.specs.declared.conditions.condition.Connective.TheVariants.{And, Or}
use Rattle.liquid_std.specs.declared.conditions.condition.Operator.{Operator}
use Rattle.liquid_std.specs.declared.conditions.condition.Operator.TheVariants.{Compares, Contains}
use Rattle.liquid_std.specs.declared.conditions.condition.TestShape.{TestShape}
use Rattle.liquid_std.specs.declared.conditions.condition.TestShape.TheVariants.{Holds, Passes}

-- the operator that a token's text means
abbrev pub operator_of : List ℕ → Option Operator
operator_of text =
    cond (bytes_eq text (codes "contains")) (Some Contains) (option_map (λ comparison. Compares comparison) (comparison_of text))

-- what a token's text joins conditions by
abbrev pub connective_of : List ℕ → Option Connective
connective_of text = cond (bytes_eq text (codes "and")) (Some And) (cond (bytes_eq text (codes "or")) (Some Or) None)

-- the condition of one test
abbrev pub of_test : TestShape → ConditionShape
of_test test = record { joined = []; last = test }

-- a test joined to the conditions after it, by a token that has to be `and` or `or`
abbrev pub joined_by : TestShape → Token → Result ConditionShape Refusal → Result ConditionShape Refusal
joined_by test t rest =
    ok_then (or_unexpected t (connective_of t.text)) (λ connective.
    ok_then rest (λ c. Ok (record c { joined = (test, connective) ∷ c.joined })))

-- a test is a value, or two values with an operator between them; `and` or `or` joins it to the rest
abbrev mutual
  pub from_value : Place → List Token → Result ConditionShape Refusal
  from_value place [] = Err (located token_expected place)
  from_value place (t ∷ ts) = ok_then (or_unexpected t (expect_value t)) (λ e. after_value e ts)

  pub after_value : ExpressionShape → List Token → Result ConditionShape Refusal
  after_value e [] = Ok (of_test (Holds e))
  after_value e (t ∷ ts) =
      elim (operator_of t.text) [ None ↦ joined_by (Holds e) t (from_value t.following ts) | Some op ↦ from_second e op t.following ts ]

  pub from_second : ExpressionShape → Operator → Place → List Token → Result ConditionShape Refusal
  from_second e op place [] = Err (located token_expected place)
  from_second e op place (t ∷ ts) = ok_then (or_unexpected t (expect_value t)) (λ r. after_test (Passes e op r) ts)

  pub after_test : TestShape → List Token → Result ConditionShape Refusal
  after_test test [] = Ok (of_test test)
  after_test test (t ∷ ts) = joined_by test t (from_value t.following ts)

-- the condition that all tokens make
abbrev pub condition_given : Tokens → Result ConditionShape Refusal
condition_given ts = from_value ts.following ts.left
