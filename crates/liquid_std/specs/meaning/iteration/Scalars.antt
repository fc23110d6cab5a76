-- The items of a series, where a loop may go over a scalar.
use Rattle.std.specs.Prelude.{List, [], ◌∷◌, cond, length, ◌==◌, Result, Ok}
use Rattle.liquid_error.specs.meaning.Refusal.{Refusal, ok_then}
use Rattle.liquid_scalar.specs.meaning.Scalar.{Scal, text}
use Rattle.liquid_value.specs.meaning.Tree.{Tree, scalar}
use Rattle.liquid_runtime.specs.meaning.View.{View}
use Rattle.liquid_plugins.specs.meaning.Evaluation.{evaluate}
use Rattle.liquid_tags.specs.declared.for_block.series.SeriesShape.{SeriesShape}
use Rattle.liquid_tags.specs.declared.for_block.series.SeriesShape.TheVariants.{Of, Between}
use Rattle.liquid_tags.specs.meaning.Series.{items_in, items_of}
use Rattle.liquid_std.specs.declared.iteration.scalars.OverScalar.{OverScalar}
use Rattle.liquid_std.specs.declared.iteration.scalars.OverScalar.TheVariants.{Refused, TextItself}

-- a text is its own only item unless it is empty; other scalars have none
abbrev pub scalar_items : Scal → List Tree
scalar_items (text bytes) = cond (length bytes == 0) [] (scalar (text bytes) ∷ [])
scalar_items x = []

-- the items of a value, where a scalar has items too
abbrev pub items_within : Tree → Result (List Tree) Refusal
items_within (scalar x) = Ok (scalar_items x)
items_within t = items_in t

-- the items of a series; the ends of a range must be numbers
abbrev pub items_over : {Reg : Type 0} → OverScalar → View Reg → SeriesShape → Result (List Tree) Refusal
items_over Refused v s = items_of v s
items_over TextItself v (Of e) = ok_then (evaluate v e) items_within
items_over TextItself v (Between from to) = items_of v (Between from to)
