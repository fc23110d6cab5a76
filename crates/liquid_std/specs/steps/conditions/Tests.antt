-- The test that the next tokens make, and the tokens after it.
use Rattle.std.specs.Prelude.{◌≡◌, Option, None, Some, option_map, option_and_then, Result, Ok}
use Rattle.liquid_error.specs.meaning.Refusal.{Refusal, ok_then}
use Rattle.liquid_plugins.specs.meaning.Expression.{ExpressionShape}
use Rattle.liquid_parser.specs.declared.cursor.tokens.TagTokenIter.{TagTokenIter}
use Rattle.liquid_parser.specs.meaning.Handed.{Tokens, expect_value, next}
use Rattle.liquid_parser.specs.meaning.Plugins.{AreTokens}
use Rattle.liquid_tags.specs.meaning.Asked.{next_as}
use Rattle.liquid_std.specs.declared.conditions.condition.Operator.{Operator}
use Rattle.liquid_std.specs.declared.conditions.condition.TestShape.{TestShape}
use Rattle.liquid_std.specs.declared.conditions.condition.TestShape.TheVariants.{Holds, Passes}
use Rattle.liquid_std.specs.meaning.conditions.ConditionsGiven.{operator_of}

-- the operator that the next token is, if it is one, and the tokens after it
abbrev pub operator_in : Tokens → Option (Operator × Tokens)
operator_in ts = option_and_then (λ given. option_map (λ op. (op, given.1)) (operator_of given.0.text)) (next ts)

-- what was read is meant, and the cursor is after it; if nothing is meant, the same tokens are left
abbrev pub TakesIf : {A : Type 0} → Option A → TagTokenIter → Tokens → Option (A × Tokens) → Type 0
TakesIf (Some x) cursor ts meant = (rest : Tokens) × (meant ≡ Some (x, rest)) × AreTokens cursor rest
TakesIf None cursor ts meant = (meant ≡ None) × AreTokens cursor ts

-- a value, or with an operator after it a second value
abbrev pub test_from : ExpressionShape → Tokens → Option (Operator × Tokens) → Result (TestShape × Tokens) Refusal
test_from e ts None = Ok (Holds e, ts)
test_from e ts (Some op) = ok_then (next_as expect_value op.1) (λ r. Ok (Passes e op.0 r.0, r.1))

abbrev pub test_given : Tokens → Result (TestShape × Tokens) Refusal
test_given ts = ok_then (next_as expect_value ts) (λ e. test_from e.0 e.1 (operator_in e.1))
