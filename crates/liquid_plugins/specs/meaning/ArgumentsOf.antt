-- The arguments of a filter.
use Rattle.std.specs.Prelude.{ℕ, List, map}
use Rattle.liquid_plugins.specs.meaning.Expression.{ExpressionShape}
use Rattle.liquid_plugins.specs.meaning.ExpressionOf.{expression_of}
use Rattle.liquid_plugins.specs.declared.parameters.FilterArguments.{FilterArguments}

-- the positional ones, and those with a keyword
pub record Arguments : Type 0 where
  pub positional : List ExpressionShape
  pub keyword : List (List ℕ × ExpressionShape)

-- those of a call
abbrev pub arguments_of : FilterArguments → Arguments
arguments_of a =
    record { positional = map expression_of a.positional.items; keyword = map (λ k. (k.0.now, expression_of k.1)) a.keyword.items }
