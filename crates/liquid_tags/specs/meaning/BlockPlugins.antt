-- The names of the blocks, and what they make from their tokens and bodies.
use Rattle.std.specs.Prelude.{
  ℕ,
  List,
  [],
  ◌∷◌,
  ◌++◌,
  codes,
  Bool,
  true,
  false,
  cond,
  bytes_eq,
  Option,
  None,
  Some,
  option_map,
  Result,
  Ok,
  Err,
}
use Rattle.liquid_error.specs.meaning.Refusal.{Refusal, located, ok_then}
use Rattle.liquid_parser.specs.meaning.Cursors.{expect_str}
use Rattle.liquid_parser.specs.meaning.Handed.{Token, Tokens, TokenShape, chain, range, symbol, expect_identifier, value_of}
use Rattle.liquid_parser.specs.meaning.Lang.{Block, BlockMeaning, BlockNames, Body, parts, escaped}
use Rattle.liquid_tags.specs.meaning.Asked.{alone, next_as}
use Rattle.liquid_tags.specs.meaning.Blocks.{block_of}
use Rattle.liquid_tags.specs.meaning.ConditionsGiven.{condition_given}
use Rattle.liquid_tags.specs.declared.if_block.condition.ConditionShape.{ConditionShape}
use Rattle.liquid_tags.specs.declared.for_block.series.SeriesShape.{SeriesShape}
use Rattle.liquid_tags.specs.declared.for_block.series.SeriesShape.TheVariants as series
use Rattle.liquid_tags.specs.declared.blocks.BlockShape.{BlockShape}
use Rattle.liquid_tags.specs.declared.blocks.BlockShape.TheVariants as shape
use Rattle.liquid_tags.specs.declared.block_plugins.BlockPlan.{BlockPlan}
use Rattle.liquid_tags.specs.declared.block_plugins.PlanShape.{PlanShape}
use Rattle.liquid_tags.specs.declared.block_plugins.Blocks.{Blocks}
use Rattle.liquid_tags.specs.declared.block_plugins.Blocks.TheVariants.{If, For, Raw}

-- the shape of what is planned while a block is read
abbrev pub plan_of : BlockPlan → PlanShape
plan_of p = record { node = block_of p.node; is_closed = p.is_closed }

abbrev pub start_of : Blocks → List ℕ
start_of If = codes "if"
start_of For = codes "for"
start_of Raw = codes "raw"

abbrev pub end_of : Blocks → List ℕ
end_of If = codes "endif"
end_of For = codes "endfor"
end_of Raw = codes "endraw"

abbrev pub dividers_of : Blocks → List (List ℕ)
dividers_of If = codes "elsif" ∷ codes "else" ∷ []
dividers_of For = codes "else" ∷ []
dividers_of Raw = []

abbrev pub escapes_of : Blocks → Bool
escapes_of If = false
escapes_of For = false
escapes_of Raw = true

-- a range or a value
abbrev pub series_in : TokenShape → Option SeriesShape
series_in (range from to) = Some (series.Between from to)
series_in (chain e calls) = option_map (λ value. series.Of value) (value_of (chain e calls))
series_in (symbol s) = None

abbrev pub expect_series : Token → Option SeriesShape
expect_series t = series_in t.shape

-- a plan that no `else` has closed yet
abbrev pub planned : BlockShape → PlanShape
planned n = record { node = n; is_closed = false }

-- `if` takes a condition, `for` a name, `in` and a range or a value, `raw` nothing
abbrev pub begun : Blocks → Tokens → Result PlanShape Refusal
begun If ts = ok_then (condition_given ts) (λ c. Ok (planned (shape.If (c ∷ []))))
begun For ts =
    ok_then (next_as expect_identifier ts) (λ name. ok_then (next_as (expect_str (codes "in")) name.1) (λ word.
    ok_then (next_as expect_series word.1) (λ s. alone (planned (shape.For name.0 s.0)) s.1)))
begun Raw ts = alone (planned (shape.Raw [])) ts

abbrev pub with_condition : ConditionShape → BlockShape → BlockShape
with_condition c (shape.If cs) = shape.If (cs ++ c ∷ [])
with_condition c other = other

-- `else` takes nothing; `elsif` takes a condition
abbrev pub divided_on : PlanShape → List ℕ → Tokens → Result PlanShape Refusal
divided_on p name ts =
    cond (bytes_eq name (codes "else")) (alone (record p { is_closed = true }) ts)
    (ok_then (condition_given ts) (λ c. Ok (record p { node = with_condition c p.node })))

-- `else` is the last divider
abbrev pub divided : PlanShape → List ℕ → Tokens → Result PlanShape Refusal
divided p name ts = cond p.is_closed (Err (located (codes "Divider after else") ts.following)) (divided_on p name ts)

-- `raw` is the text of its body, and the others are as planned
abbrev pub finished : PlanShape → Body → Result BlockShape Refusal
finished p (escaped t) = Ok (shape.Raw t)
finished p (parts n) = Ok p.node

abbrev pub block_meaning : {F : Type 0} → Blocks → BlockMeaning F PlanShape BlockShape
block_meaning b = record {
  dividers = dividers_of b;
  escapes = escapes_of b;
  nests = false;
  begin = λ filters ts. begun b ts;
  divide = divided;
  finish = finished;
}

-- a block with the names of its tags
abbrev pub names_told : Blocks → BlockNames
names_told b = record { start_name = start_of b; end_name = end_of b }

abbrev pub whole_block : {F : Type 0} → Blocks → Block F PlanShape BlockShape
whole_block b = record { names = names_told b; means = block_meaning b }
