-- What the test blocks mean.
use Rattle.std.specs.Prelude.{ℕ, List, codes, None, Result, Ok, string_bytes}
use Rattle.std.specs.FinMap.{empty, insert}
use Rattle.liquid_error.specs.meaning.Refusal.{Refusal, ok_then}
use Rattle.liquid_value.specs.meaning.Tree.{Tree}
use Rattle.liquid_runtime.specs.meaning.View.{View}
use Rattle.liquid_runtime.specs.meaning.Frames.{FrameShape, no_frame, stack_frame, sandboxed_frame, global_frame}
use Rattle.liquid_plugins.specs.meaning.Evaluation.{evaluate}
use Rattle.liquid_plugins.specs.meaning.ExpressionOf.{expression_of}
use Rattle.liquid_plugins.specs.meaning.Turns.{TurnShape, text_turn, body_turn, end_turn, Answered, NodeMeaning}
use Rattle.liquid_plugins.specs.meaning.Turning.{answers, begins_with, captures_nothing}
use Rattle.test_plugins.specs.declared.blocks.BlockNode.{BlockNode}
use Rattle.test_plugins.specs.declared.blocks.BlockNode.TheVariants as block
use Rattle.test_plugins.specs.declared.blocks.BlockShape.{BlockShape}
use Rattle.test_plugins.specs.declared.blocks.BlockShape.TheVariants as shape
use Rattle.test_plugins.specs.declared.blocks.Stage.{Stage}
use Rattle.test_plugins.specs.declared.blocks.Stage.TheVariants.{First, Second, Third, Over}

-- the shape of a block
abbrev pub block_of : BlockNode → BlockShape
block_of block.Box = shape.Box
block_of block.Sbox = shape.Sbox
block_of block.Swap = shape.Swap
block_of (block.Raw slice) = shape.Raw (string_bytes slice)
block_of (block.With name e) = shape.With (string_bytes name) (expression_of e.value)
block_of block.Glob = shape.Glob

-- the turn after a turn
abbrev pub next_stage : Stage → Stage
next_stage First = Second
next_stage Second = Third
next_stage Third = Over
next_stage Over = Over

-- the brackets, with the body between them
abbrev pub boxed : Stage → TurnShape
boxed First = text_turn (codes "[")
boxed Second = body_turn 0 no_frame None
boxed Third = text_turn (codes "]")
boxed Over = end_turn

-- the second part, then the first
abbrev pub swapped : Stage → TurnShape
swapped First = body_turn 1 no_frame None
swapped Second = body_turn 0 no_frame None
swapped Third = end_turn
swapped Over = end_turn

-- one turn
abbrev pub once : {A : Type 0} → A → A → Stage → A
once turn over First = turn
once turn over Second = over
once turn over Third = over
once turn over Over = over

-- a frame of one name, which has this value
abbrev pub bound : List ℕ → Result Tree Refusal → Result FrameShape Refusal
bound name value = ok_then value (λ t. Ok (stack_frame (insert empty name t) None))

-- what a block's turn returns
abbrev pub block_answers : {Reg : Type 0} → BlockShape → Stage → View Reg → Result TurnShape Refusal
block_answers shape.Box stage v = Ok (boxed stage)
block_answers shape.Sbox stage v = Ok (once (body_turn 0 (sandboxed_frame empty None) None) end_turn stage)
block_answers shape.Swap stage v = Ok (swapped stage)
block_answers (shape.Raw slice) stage v = Ok (once (text_turn slice) end_turn stage)
block_answers (shape.With name e) stage v =
    once (ok_then (bound name (evaluate v e)) (λ frame. Ok (body_turn 0 frame None))) (Ok end_turn) stage
block_answers shape.Glob stage v = Ok (once (body_turn 0 global_frame None) end_turn stage)

-- no turn writes anything
abbrev pub block_takes : {Reg : Type 0} → BlockShape → Stage → View Reg → Answered TurnShape Stage Reg
block_takes n stage v = answers (block_answers n stage v) (next_stage stage) v

-- what the nodes mean: each takes at most three turns
abbrev pub block_nodes : {Reg : Type 0} → NodeMeaning BlockShape Stage Reg
block_nodes = record { starts = λ n. begins_with First; count = λ stage. 3; takes = block_takes; catches = captures_nothing }
