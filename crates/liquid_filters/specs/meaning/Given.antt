-- What a filter is given: the values of its arguments.
use Rattle.std.specs.Prelude.{ℕ, List, [], map}
use Rattle.liquid_value.specs.meaning.Cow.{cow_view}
use Rattle.liquid_value.specs.meaning.Tree.{Tree}
use Rattle.liquid_filters.specs.declared.arguments.CallArguments.{CallArguments}

-- the positional values, and those with a keyword
pub record Given : Type 0 where
  pub positional : List Tree
  pub keyword : List (List ℕ × Tree)

-- those of a call
abbrev pub given : CallArguments → Given
given a = record { positional = map cow_view a.positional.now; keyword = map (λ k. (k.0.now, cow_view k.1)) a.keyword.now }

-- positional values, and none with a keyword
abbrev pub alone : List Tree → Given
alone ts = record { positional = ts; keyword = [] }
