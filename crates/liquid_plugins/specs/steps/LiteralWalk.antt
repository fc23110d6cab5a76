-- Where literal indexes lead.
use Rattle.std.specs.Prelude.{Option, Some, option_and_then}
use Rattle.liquid_value.specs.meaning.Tree.{Tree}
use Rattle.liquid_value.specs.meaning.Parts.{as_scalar}
use Rattle.liquid_paths.specs.meaning.Step.{step}
use Rattle.liquid_plugins.specs.meaning.Expression.{ExpressionShape, Indexes, no_indexes, index, as_literal}

-- the part of a value at an index, if the index is a literal and the value has the part
abbrev pub literal_part : Tree → ExpressionShape → Option Tree
literal_part t e = option_and_then (λ i. option_and_then (λ x. step t x) (as_scalar i)) (as_literal e)

-- where indexes lead from a value, if each is such a literal
abbrev pub literal_walk : Tree → Indexes → Option Tree
literal_walk t no_indexes = Some t
literal_walk t (index e es) = option_and_then (λ part. literal_walk part es) (literal_part t e)
