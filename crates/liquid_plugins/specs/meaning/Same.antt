-- Strict equality of expressions: the same literal, or the same name and the same indexes.
use Rattle.std.specs.Prelude.{Bool, true, false, ◌&&◌}
use Rattle.liquid_scalar.specs.meaning.ScalarCompare.{same_scalar}
use Rattle.liquid_value.specs.meaning.Strict.{same_value}
use Rattle.liquid_plugins.specs.meaning.Expression.{ExpressionShape, literal, variable, Indexes, no_indexes, index}

abbrev mutual
  pub same_expression : ExpressionShape → ExpressionShape → Bool
  same_expression (literal t) (literal u) = same_value t u
  same_expression (variable n is) (variable m js) = same_scalar n m && same_indexes is js
  same_expression l r = false

  pub same_indexes : Indexes → Indexes → Bool
  same_indexes no_indexes no_indexes = true
  same_indexes (index e es) (index f fs) = same_expression e f && same_indexes es fs
  same_indexes l r = false
