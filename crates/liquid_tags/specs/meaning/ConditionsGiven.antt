-- The conditions that tokens make.
use Rattle.std.specs.Prelude.{List, [], ◌∷◌, ℕ, codes, cond, bytes_eq, Option, None, Some, Result, Ok}
use Rattle.liquid_error.specs.meaning.Refusal.{Refusal, ok_then}
use Rattle.liquid_plugins.specs.meaning.Expression.{ExpressionShape}
use Rattle.liquid_parser.specs.meaning.Handed.{Token, Tokens, expect_value, or_unexpected}
use Rattle.liquid_tags.specs.meaning.Asked.{alone, next_as}
use Rattle.liquid_tags.specs.declared.if_block.condition.Comparison.{Comparison}
use Rattle.liquid_tags.specs.declared.if_block.condition.Comparison.TheVariants as comparison
use Rattle.liquid_tags.specs.declared.if_block.condition.ConditionShape.{ConditionShape}
use Rattle.liquid_tags.specs.declared.if_block.condition.ConditionShape.TheVariants.{Holds, Compares}

-- the comparison that a token's text means
abbrev pub comparison_of : List ℕ → Option Comparison
comparison_of text =
    cond (bytes_eq text (codes "==")) (Some comparison.Equal)
    (cond (bytes_eq text (codes "!=")) (Some comparison.Unequal)
    (cond (bytes_eq text (codes "<>")) (Some comparison.Unequal)
    (cond (bytes_eq text (codes "<")) (Some comparison.Less)
    (cond (bytes_eq text (codes ">")) (Some comparison.Greater)
    (cond (bytes_eq text (codes "<=")) (Some comparison.AtMost)
    (cond (bytes_eq text (codes ">=")) (Some comparison.AtLeast) None))))))

-- after the first value no token, or a comparison and a second value
abbrev pub following_value : ExpressionShape → List Token → Result ConditionShape Refusal
following_value e [] = Ok (Holds e)
following_value e (t ∷ more) =
    ok_then (or_unexpected t (comparison_of t.text)) (λ op.
    ok_then (next_as expect_value (record { following = t.following; left = more })) (λ value. alone (Compares e op value.0) value.1))

-- the condition that tokens make
abbrev pub condition_given : Tokens → Result ConditionShape Refusal
condition_given ts = ok_then (next_as expect_value ts) (λ value. following_value value.0 value.1.left)
