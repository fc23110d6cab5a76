-- What the blocks mean.
use Rattle.std.specs.Prelude.{ℕ, ◌+◌, List, [], ◌∷◌, length, map, string_bytes, None, Result, Ok}
use Rattle.liquid_error.specs.meaning.Refusal.{Refusal, ok_then}
use Rattle.liquid_value.specs.meaning.Tree.{Tree}
use Rattle.liquid_runtime.specs.meaning.View.{View}
use Rattle.liquid_runtime.specs.meaning.Frames.{no_frame}
use Rattle.liquid_plugins.specs.meaning.Turns.{TurnShape, text_turn, body_turn, end_turn, Answered, NodeMeaning}
use Rattle.liquid_tags.specs.meaning.Conditions.{chosen, condition_of}
use Rattle.liquid_tags.specs.meaning.Loops.{loop_takes, rounds_of}
use Rattle.liquid_tags.specs.meaning.Series.{items_of, series_of}
use Rattle.liquid_plugins.specs.meaning.Turning.{answers, captures_nothing}
use Rattle.liquid_tags.specs.declared.for_block.rounds.RoundsShape.{RoundsShape}
use Rattle.liquid_tags.specs.declared.blocks.BlockNode.{BlockNode}
use Rattle.liquid_tags.specs.declared.blocks.BlockNode.TheVariants as block
use Rattle.liquid_tags.specs.declared.blocks.BlockShape.{BlockShape}
use Rattle.liquid_tags.specs.declared.blocks.BlockShape.TheVariants as shape
use Rattle.liquid_tags.specs.declared.blocks.BlockProgress.{BlockProgress}
use Rattle.liquid_tags.specs.declared.blocks.BlockProgress.TheVariants as progress
use Rattle.liquid_tags.specs.declared.blocks.ProgressShape.{ProgressShape}
use Rattle.liquid_tags.specs.declared.blocks.ProgressShape.TheVariants.{Once, Loop}

-- the shapes of a block and of its progress
abbrev pub block_of : BlockNode → BlockShape
block_of (block.If cs) = shape.If (map condition_of cs.items)
block_of (block.For name s) = shape.For (string_bytes name) (series_of s.value)
block_of (block.Raw slice) = shape.Raw (string_bytes slice)

abbrev pub progress_of : BlockProgress → ProgressShape
progress_of (progress.Once part) = Once part
progress_of (progress.Loop r) = Loop (rounds_of r.value)

-- a loop over these items; without items its `else` part is rendered
abbrev pub over_items : List Tree → ProgressShape
over_items [] = Once 1
over_items (t ∷ ts) = Loop (record { left = t ∷ ts; place = 0; size = length (t ∷ ts); turns = length (t ∷ ts) + 1 })

-- a block's start chooses the part of an `if`, or takes the items of a `for`
abbrev pub begins_as : {Reg : Type 0} → BlockShape → View Reg → Result ProgressShape Refusal
begins_as (shape.If cs) v = ok_then (chosen v 0 cs) (λ part. Ok (Once part))
begins_as (shape.For name s) v = ok_then (items_of v s) (λ ts. Ok (over_items ts))
begins_as (shape.Raw slice) v = Ok (Once 0)

abbrev pub block_starts : {Reg : Type 0} → BlockShape → View Reg → Answered ProgressShape (Unit {0}) Reg
block_starts n v = answers (begins_as n v) tt v

abbrev pub block_count : ProgressShape → ℕ
block_count (Once part) = 1
block_count (Loop r) = r.turns

abbrev pub in_loop : {Reg : Type 0} → Answered TurnShape RoundsShape Reg → Answered TurnShape ProgressShape Reg
in_loop t = record { answer = t.answer; progress = Loop t.progress; written = t.written }

-- what a block's turn returns; a part is rendered without a frame
abbrev pub block_takes : {Reg : Type 0} → BlockShape → ProgressShape → View Reg → Answered TurnShape ProgressShape Reg
block_takes (shape.Raw slice) p v = answers (Ok (text_turn slice)) p v
block_takes (shape.For name s) (Loop r) v = in_loop (loop_takes name r v)
block_takes (shape.For name s) (Once part) v = answers (Ok (body_turn part no_frame None)) (Once part) v
block_takes (shape.If cs) (Once part) v = answers (Ok (body_turn part no_frame None)) (Once part) v
block_takes (shape.If cs) (Loop r) v = answers (Ok end_turn) (Loop r) v

-- what the nodes mean
abbrev pub block_nodes : {Reg : Type 0} → NodeMeaning BlockShape ProgressShape Reg
block_nodes = record { starts = block_starts; count = block_count; takes = block_takes; catches = captures_nothing }
