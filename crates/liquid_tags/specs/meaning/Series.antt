-- What a loop goes over: the items of a value or of a range.
use Rattle.std.specs.Prelude.{
  ℕ,
  zero,
  suc,
  ℤ,
  pos,
  unsigned_abs,
  List,
  [],
  ◌∷◌,
  ◌+◌,
  ◌+ℤ◌,
  ◌-ℤ◌,
  codes,
  cond,
  nat_lt,
  ok_or,
  option_and_then,
  Result,
  Ok,
  Err,
}
use Rattle.std.specs.Fmt.{signed_decimal}
use Rattle.std.specs.Int.Signed.{le_z}
use Rattle.liquid_error.specs.meaning.Refusal.{Refusal, plain, with_context, ok_then}
use Rattle.liquid_scalar.specs.meaning.Scalar.{integer, text, to_integer}
use Rattle.liquid_value.specs.meaning.Tree.{Tree, nil, state, scalar, array, object, Items, no_items, item, Members, no_members, member}
use Rattle.liquid_value.specs.meaning.Parts.{as_scalar}
use Rattle.liquid_value.specs.meaning.Render.{source}
use Rattle.liquid_runtime.specs.meaning.View.{View}
use Rattle.liquid_plugins.specs.meaning.Evaluation.{evaluate}
use Rattle.liquid_plugins.specs.meaning.ExpressionOf.{expression_of}
use Rattle.liquid_tags.specs.declared.for_block.series.Series.{Series}
use Rattle.liquid_tags.specs.declared.for_block.series.Series.TheVariants as series
use Rattle.liquid_tags.specs.declared.for_block.series.SeriesShape.{SeriesShape}
use Rattle.liquid_tags.specs.declared.for_block.series.SeriesShape.TheVariants.{Of, Between}

-- the shape of a series
abbrev pub series_of : Series → SeriesShape
series_of (series.Of e) = Of (expression_of e)
series_of (series.Between from to) = Between (expression_of from) (expression_of to)

-- the refusal of a value, with its source
abbrev pub expected : List ℕ → Tree → Refusal
expected message t = with_context (codes "found") (source t) (plain message)

-- the items of an array
abbrev pub trees : Items → List Tree
trees no_items = []
trees (item t ts) = t ∷ trees ts

-- a name and its value, as an array
abbrev pub pair : List ℕ → Tree → Tree
pair name t = array (item (scalar (text name)) (item t no_items))

-- the pairs of an object, in the order of the names
abbrev pub pairs : Members → List Tree
pairs no_members = []
pairs (member name t ms) = pair name t ∷ pairs ms

-- the items of a value; nil and states have none
abbrev pub items_in : Tree → Result (List Tree) Refusal
items_in nil = Ok []
items_in (state s) = Ok []
items_in (array ts) = Ok (trees ts)
items_in (object ms) = Ok (pairs ms)
items_in (scalar x) = Err (expected (codes "Array expected") (scalar x))

-- the integer that a value is
abbrev pub whole_number : Tree → Result ℤ Refusal
whole_number t = ok_or (option_and_then to_integer (as_scalar t)) (expected (codes "Whole number expected") t)

-- that many numbers, from this one on
abbrev pub counted : ℤ → ℕ → List Tree
counted from zero = []
counted from (suc n) = scalar (integer from) ∷ counted (from +ℤ pos 1) n

-- the refusal of a range of more than a million numbers
abbrev pub range_too_long : ℤ → ℤ → Refusal
range_too_long from to =
    with_context (codes "stop") (signed_decimal to) (with_context (codes "start") (signed_decimal from) (plain (codes "Range too long")))

-- the greatest number of items of a range
abbrev pub longest : ℕ
longest = 1000000

-- the numbers from one to another; none if the first is greater
abbrev pub items_between : ℤ → ℤ → Result (List Tree) Refusal
items_between from to =
    cond (le_z from to)
    (cond (nat_lt (unsigned_abs (to -ℤ from)) longest) (Ok (counted from (unsigned_abs (to -ℤ from) + 1))) (Err (range_too_long from to)))
    (Ok [])

-- the items of a series; of a range the first end is evaluated, and must be a number, before the second
abbrev pub items_of : {Reg : Type 0} → View Reg → SeriesShape → Result (List Tree) Refusal
items_of v (Of e) = ok_then (evaluate v e) items_in
items_of v (Between from to) =
    ok_then (evaluate v from) (λ a. ok_then (whole_number a) (λ m. ok_then (evaluate v to)
    (λ b. ok_then (whole_number b) (λ n. items_between m n))))
