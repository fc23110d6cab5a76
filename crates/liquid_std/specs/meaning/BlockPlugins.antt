-- The names of the blocks, and what they make of their tokens and bodies.
use Rattle.std.specs.Prelude.{ℕ, List, [], ◌∷◌, ◌++◌, codes, Bool, true, false, cond, bytes_eq, Result, Ok, Err}
use Rattle.liquid_error.specs.meaning.Refusal.{Refusal, located, ok_then}
use Rattle.liquid_parser.specs.meaning.Handed.{Tokens, expect_identifier, expect_value}
use Rattle.liquid_parser.specs.meaning.Lang.{Block, BlockMeaning, BlockNames, Body, parts, escaped}
use Rattle.liquid_tags.specs.meaning.Asked.{alone, next_as}
use Rattle.liquid_std.specs.declared.conditions.branches.CaseShape.{CaseShape}
use Rattle.liquid_std.specs.declared.conditions.condition.ConditionShape.{ConditionShape}
use Rattle.liquid_std.specs.declared.conditions.equality.Equality.{Equality}
use Rattle.liquid_std.specs.meaning.conditions.ConditionsGiven.{condition_given}
use Rattle.liquid_std.specs.meaning.conditions.Values.{values_given}
use Rattle.liquid_std.specs.declared.iteration.options.LoopBlock.TheVariants as loop
use Rattle.liquid_std.specs.declared.iteration.scalars.OverScalar.{OverScalar}
use Rattle.liquid_std.specs.meaning.iteration.OptionsGiven.{loop_given}
use Rattle.liquid_std.specs.declared.blocks.StdBlockShape.{StdBlockShape}
use Rattle.liquid_std.specs.declared.blocks.StdBlockShape.TheVariants as shape
use Rattle.liquid_std.specs.declared.block_plugins.StdBlocks.{StdBlocks}
use Rattle.liquid_std.specs.declared.block_plugins.StdBlocks.TheVariants.{If, Unless, Case, For, Tablerow, Capture, Ifchanged, Comment, Raw}
use Rattle.liquid_std.specs.declared.block_plugins.StdPlan.{StdPlan}
use Rattle.liquid_std.specs.declared.block_plugins.StdPlanShape.{StdPlanShape}
use Rattle.liquid_std.specs.meaning.Blocks.{block_of}

-- the shape of what is planned while a block is read
abbrev pub plan_of : StdPlan → StdPlanShape
plan_of p = record { node = block_of p.node; is_closed = p.is_closed }

abbrev pub start_of : StdBlocks → List ℕ
start_of (If equality) = codes "if"
start_of (Unless equality) = codes "unless"
start_of (Case equality) = codes "case"
start_of (For over) = codes "for"
start_of Tablerow = codes "tablerow"
start_of Capture = codes "capture"
start_of Ifchanged = codes "ifchanged"
start_of Comment = codes "comment"
start_of Raw = codes "raw"

abbrev pub end_of : StdBlocks → List ℕ
end_of (If equality) = codes "endif"
end_of (Unless equality) = codes "endunless"
end_of (Case equality) = codes "endcase"
end_of (For over) = codes "endfor"
end_of Tablerow = codes "endtablerow"
end_of Capture = codes "endcapture"
end_of Ifchanged = codes "endifchanged"
end_of Comment = codes "endcomment"
end_of Raw = codes "endraw"

abbrev pub dividers_of : StdBlocks → List (List ℕ)
dividers_of (If equality) = codes "elsif" ∷ codes "else" ∷ []
dividers_of (Unless equality) = codes "elsif" ∷ codes "else" ∷ []
dividers_of (Case equality) = codes "when" ∷ codes "else" ∷ []
dividers_of (For over) = codes "else" ∷ []
dividers_of Tablerow = []
dividers_of Capture = []
dividers_of Ifchanged = []
dividers_of Comment = []
dividers_of Raw = []

abbrev pub escapes_of : StdBlocks → Bool
escapes_of (If equality) = false
escapes_of (Unless equality) = false
escapes_of (Case equality) = false
escapes_of (For over) = false
escapes_of Tablerow = false
escapes_of Capture = false
escapes_of Ifchanged = false
escapes_of Comment = true
escapes_of Raw = true

-- whether start tags in an escaped body have ends of their own
abbrev pub nests_of : StdBlocks → Bool
nests_of Comment = true
nests_of other = false

-- a plan that no `else` has closed yet
abbrev pub planned : StdBlockShape → StdPlanShape
planned n = record { node = n; is_closed = false }

-- a block that begins with a condition
abbrev pub condition_planned : (List ConditionShape → StdBlockShape) → Tokens → Result StdPlanShape Refusal
condition_planned block ts = ok_then (condition_given ts) (λ c. Ok (planned (block (c ∷ []))))

-- `case` takes a value
abbrev pub case_given : Equality → Tokens → Result StdPlanShape Refusal
case_given equality ts =
    ok_then (next_as expect_value ts) (λ value.
    alone (planned (shape.Case equality (record { value = value.0; alternatives = [] }))) value.1)

-- `for` and `tablerow` take a loop
abbrev pub for_given : OverScalar → Tokens → Result StdPlanShape Refusal
for_given over ts = ok_then (loop_given loop.For ts) (λ l. Ok (planned (shape.For over l)))

abbrev pub tablerow_given : Tokens → Result StdPlanShape Refusal
tablerow_given ts = ok_then (loop_given loop.Tablerow ts) (λ l. Ok (planned (shape.Tablerow l)))

-- `capture` takes a name
abbrev pub capture_given : Tokens → Result StdPlanShape Refusal
capture_given ts = ok_then (next_as expect_identifier ts) (λ name. alone (planned (shape.Capture name.0)) name.1)

abbrev pub begun : StdBlocks → Tokens → Result StdPlanShape Refusal
begun (If equality) ts = condition_planned (shape.If equality) ts
begun (Unless equality) ts = condition_planned (shape.Unless equality) ts
begun (Case equality) ts = case_given equality ts
begun (For over) ts = for_given over ts
begun Tablerow ts = tablerow_given ts
begun Capture ts = capture_given ts
begun Ifchanged ts = alone (planned shape.Ifchanged) ts
begun Comment ts = alone (planned shape.Comment) ts
begun Raw ts = alone (planned (shape.Raw [])) ts

-- conditions with that of an `elsif` after them
abbrev pub with_condition : List ConditionShape → Tokens → Result (List ConditionShape) Refusal
with_condition cs ts = ok_then (condition_given ts) (λ c. Ok (cs ++ c ∷ []))

-- a `case` with the alternatives of a `when`, which have commas or `or` between them
abbrev pub with_alternatives : CaseShape → Tokens → Result CaseShape Refusal
with_alternatives c ts =
    ok_then (values_given (codes "," ∷ codes "or" ∷ []) ts) (λ es.
    Ok (record { value = c.value; alternatives = c.alternatives ++ es ∷ [] }))

-- `elsif` takes a condition, and `when` alternatives; the other blocks have no such dividers
abbrev pub node_divided : StdBlockShape → Tokens → Result StdBlockShape Refusal
node_divided (shape.If equality cs) ts = ok_then (with_condition cs ts) (λ ds. Ok (shape.If equality ds))
node_divided (shape.Unless equality cs) ts = ok_then (with_condition cs ts) (λ ds. Ok (shape.Unless equality ds))
node_divided (shape.Case equality c) ts = ok_then (with_alternatives c ts) (λ d. Ok (shape.Case equality d))
node_divided other ts = alone other ts

-- `else` takes nothing
abbrev pub divided_on : StdPlanShape → List ℕ → Tokens → Result StdPlanShape Refusal
divided_on p name ts =
    cond (bytes_eq name (codes "else")) (alone (record p { is_closed = true }) ts)
    (ok_then (node_divided p.node ts) (λ n. Ok (record p { node = n })))

-- `else` is the last divider
abbrev pub divided : StdPlanShape → List ℕ → Tokens → Result StdPlanShape Refusal
divided p name ts = cond p.is_closed (Err (located (codes "Divider after else") ts.following)) (divided_on p name ts)

-- `raw` is the text of its body
abbrev pub finished_escaped : StdBlockShape → List ℕ → Result StdBlockShape Refusal
finished_escaped (shape.Raw before) text = Ok (shape.Raw text)
finished_escaped other text = Ok other

-- the others are as planned
abbrev pub finished : StdPlanShape → Body → Result StdBlockShape Refusal
finished p (escaped text) = finished_escaped p.node text
finished p (parts n) = Ok p.node

abbrev pub block_meaning : {F : Type 0} → StdBlocks → BlockMeaning F StdPlanShape StdBlockShape
block_meaning b = record {
  dividers = dividers_of b;
  escapes = escapes_of b;
  nests = nests_of b;
  begin = λ filters ts. begun b ts;
  divide = divided;
  finish = finished;
}

-- a block with the names of its tags
abbrev pub names_told : StdBlocks → BlockNames
names_told b = record { start_name = start_of b; end_name = end_of b }

abbrev pub whole_block : {F : Type 0} → StdBlocks → Block F StdPlanShape StdBlockShape
whole_block b = record { names = names_told b; means = block_meaning b }
