-- Lists of values in the tokens of a tag.
use Rattle.std.specs.Prelude.{ℕ, List, [], ◌∷◌, Bool, bytes_eq, cond, map, Vec, Option, Some, None, Result, Ok, Err}
use Rattle.std.specs.List.{list_any}
use Rattle.std.specs.declared.alloc.Global.{Global}
use Rattle.liquid_error.specs.declared.place.Place.{Place}
use Rattle.liquid_error.specs.meaning.Refusal.{Refusal, located, ok_then}
use Rattle.liquid_plugins.specs.declared.expression.Expression.{Expression}
use Rattle.liquid_plugins.specs.meaning.Expression.{ExpressionShape}
use Rattle.liquid_plugins.specs.meaning.ExpressionOf.{expression_of}
use Rattle.liquid_parser.specs.meaning.Handed.{Token, Tokens, expect_value, or_unexpected}
use Rattle.liquid_tags.specs.meaning.Asked.{token_expected}

-- the shapes of a list of values
abbrev pub expressions_of : Vec Expression Global → List ExpressionShape
expressions_of v = map expression_of v.items

-- a token that is one of these texts
abbrev pub expect_one_of : List (List ℕ) → Token → Option (Unit {0})
expect_one_of texts t = cond (list_any (bytes_eq t.text) texts) (Some tt) None

-- values, and between each two of them one of these texts
abbrev mutual
  pub values_from : List (List ℕ) → Place → List Token → Result (List ExpressionShape) Refusal
  values_from separators place [] = Err (located token_expected place)
  values_from separators place (t ∷ ts) =
      ok_then (or_unexpected t (expect_value t)) (λ e. ok_then (values_after separators ts) (λ es. Ok (e ∷ es)))

  pub values_after : List (List ℕ) → List Token → Result (List ExpressionShape) Refusal
  values_after separators [] = Ok []
  values_after separators (t ∷ ts) = ok_then (or_unexpected t (expect_one_of separators t)) (λ u. values_from separators t.following ts)

-- the values that all tokens make
abbrev pub values_given : List (List ℕ) → Tokens → Result (List ExpressionShape) Refusal
values_given separators ts = values_from separators ts.following ts.left
