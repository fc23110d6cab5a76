-- What follows the first value of a condition.
use Rattle.std.proofs.Common.{◌≡◌, List, [], ◌∷◌, Option, None, Some, Result, Ok, Err, refl, sym, ap, ◌∙◌}
use Rattle.std.specs.Prelude.{IfSome}
use Rattle.liquid_error.specs.meaning.Refusal.{Refusal, ok_then}
use Rattle.liquid_plugins.specs.meaning.Expression.{ExpressionShape}
use Rattle.liquid_parser.specs.meaning.Handed.{Token, Tokens, first_of, expect_value, or_unexpected, unexpected}
use Rattle.liquid_tags.specs.meaning.Asked.{alone, next_as}
use Rattle.liquid_tags.specs.meaning.ConditionsGiven.{following_value, comparison_of}
use Rattle.liquid_tags.specs.declared.if_block.condition.Comparison.{Comparison}
use Rattle.liquid_tags.specs.declared.if_block.condition.ConditionShape.{ConditionShape}
use Rattle.liquid_tags.specs.declared.if_block.condition.ConditionShape.TheVariants.{Holds, Compares}

pub nothing_after : (e : ExpressionShape) (ts : List Token) → first_of ts ≡ None → following_value e ts ≡ Ok (Holds e)
nothing_after e [] none = refl
nothing_after e (t ∷ more) none = cc

-- what a comparison and what follows it make
abbrev pub compared_with : ExpressionShape → Comparison → Tokens → Result ConditionShape Refusal
compared_with e op ts = ok_then (next_as expect_value ts) (λ value. alone (Compares e op value.0) value.1)

abbrev after_token : ExpressionShape → Token × Tokens → Result ConditionShape Refusal
after_token e given = ok_then (or_unexpected given.0 (comparison_of given.0.text)) (λ op. compared_with e op given.1)

token_after : (e : ExpressionShape) (ts : List Token) (given : Token × Tokens) → first_of ts ≡ Some given
    → following_value e ts ≡ after_token e given
token_after e [] given is = cc
token_after e (t ∷ more) given is = ap (λ o. elim o [ None ↦ Ok (Holds e) | Some g ↦ after_token e g ]) is

pub compared : (e : ExpressionShape) (ts : List Token) (given : Token × Tokens) (op : Comparison) → first_of ts ≡ Some given
    → comparison_of given.0.text ≡ Some op
    → following_value e ts ≡ compared_with e op given.1
compared e ts given op is fits =
    token_after e ts given is ∙ ap (λ o. ok_then (or_unexpected given.0 o) (λ p. compared_with e p given.1)) fits

pub uncompared : (e : ExpressionShape) (ts : List Token) (given : Token × Tokens) (o : Option Refusal) → first_of ts ≡ Some given
    → comparison_of given.0.text ≡ None
    → IfSome o (λ r. r ≡ unexpected given.0) → IfSome o (λ r. following_value e ts ≡ Err r)
uncompared e ts given None is fails told = told
uncompared e ts given (Some r) is fails told =
    token_after e ts given is ∙ ap (λ o. ok_then (or_unexpected given.0 o) (λ p. compared_with e p given.1)) fails ∙ ap Err (sym told)
