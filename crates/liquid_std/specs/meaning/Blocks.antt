-- What the blocks mean.
use Rattle.std.specs.Prelude.{ℕ, List, map, string_bytes, Option, None, Some, Result, Ok}
use Rattle.liquid_error.specs.meaning.Refusal.{Refusal, ok_then}
use Rattle.liquid_value.specs.meaning.Tree.{Tree}
use Rattle.liquid_runtime.specs.meaning.View.{View}
use Rattle.liquid_runtime.specs.meaning.Frames.{no_frame}
use Rattle.liquid_plugins.specs.meaning.Turning.{answers}
use Rattle.liquid_plugins.specs.meaning.Turns.{TurnShape, text_turn, body_turn, end_turn, Answered, NodeMeaning}
use Rattle.liquid_tags.specs.declared.for_block.rounds.RoundsShape.{RoundsShape}
use Rattle.liquid_tags.specs.meaning.Loops.{loop_takes}
use Rattle.liquid_std.specs.meaning.conditions.Branches.{case_of, part_case, part_if, part_unless}
use Rattle.liquid_std.specs.meaning.conditions.Conditions.{condition_of}
use Rattle.liquid_std.specs.declared.iteration.tables.TableShape.{TableShape}
use Rattle.liquid_std.specs.meaning.iteration.Loops.{loop_of, picked_items, rounds_of, rounds_over}
use Rattle.liquid_std.specs.meaning.iteration.Tables.{table_of, table_over, table_takes}
use Rattle.liquid_std.specs.meaning.marks.Changes.{changes}
use Rattle.liquid_std.specs.meaning.marks.Held.{MarksIn}
use Rattle.liquid_std.specs.meaning.Captures.{captures, text_of}
use Rattle.liquid_std.specs.declared.blocks.StdBlock.{StdBlock}
use Rattle.liquid_std.specs.declared.blocks.StdBlock.TheVariants as block
use Rattle.liquid_std.specs.declared.blocks.StdBlockShape.{StdBlockShape}
use Rattle.liquid_std.specs.declared.blocks.StdBlockShape.TheVariants as shape
use Rattle.liquid_std.specs.declared.blocks.StdProgress.{StdProgress}
use Rattle.liquid_std.specs.declared.blocks.StdProgress.TheVariants as progress
use Rattle.liquid_std.specs.declared.blocks.StdProgressShape.{StdProgressShape}
use Rattle.liquid_std.specs.declared.blocks.StdProgressShape.TheVariants.{Once, Rounds, Table, Capturing}

-- the shapes of a block and of its progress
abbrev pub block_of : StdBlock → StdBlockShape
block_of (block.If equality cs) = shape.If equality (map condition_of cs.items)
block_of (block.Unless equality cs) = shape.Unless equality (map condition_of cs.items)
block_of (block.Case equality c) = shape.Case equality (case_of c.value)
block_of (block.For over l) = shape.For over (loop_of l.value)
block_of (block.Tablerow l) = shape.Tablerow (loop_of l.value)
block_of (block.Capture name) = shape.Capture (string_bytes name)
block_of block.Ifchanged = shape.Ifchanged
block_of block.Comment = shape.Comment
block_of (block.Raw text) = shape.Raw (string_bytes text)

abbrev pub progress_of : StdProgress → StdProgressShape
progress_of (progress.Once part) = Once part
progress_of (progress.Rounds r) = Rounds (rounds_of r.value)
progress_of (progress.Table t) = Table (table_of t.value)
progress_of (progress.Capturing text) = Capturing (text_of text)

-- the rounds of a loop; without any its second part is rendered
abbrev pub rounds_or_else : Option RoundsShape → StdProgressShape
rounds_or_else None = Once 1
rounds_or_else (Some r) = Rounds r

abbrev pub over_items : List Tree → StdProgressShape
over_items ts = rounds_or_else (rounds_over ts)

-- a table; without one nothing is rendered, since a table has no second part
abbrev pub over_table : Option TableShape → StdProgressShape
over_table None = Once 1
over_table (Some t) = Table t

-- a block's start chooses the part of a condition or a `case`, or takes the items of a loop
abbrev pub begins_as : {Reg : Type 0} → StdBlockShape → View Reg → Result StdProgressShape Refusal
begins_as (shape.If equality cs) v = ok_then (part_if equality v 0 cs) (λ part. Ok (Once part))
begins_as (shape.Unless equality cs) v = ok_then (part_unless equality v cs) (λ part. Ok (Once part))
begins_as (shape.Case equality c) v = ok_then (part_case equality v c) (λ part. Ok (Once part))
begins_as (shape.For over l) v = ok_then (picked_items over v l) (λ ts. Ok (over_items ts))
begins_as (shape.Tablerow l) v = ok_then (table_over v l) (λ t. Ok (over_table t))
begins_as (shape.Capture name) v = Ok (Capturing None)
begins_as shape.Ifchanged v = Ok (Capturing None)
begins_as shape.Comment v = Ok (Once 0)
begins_as (shape.Raw text) v = Ok (Once 0)

abbrev pub block_starts : {Reg : Type 0} → StdBlockShape → View Reg → Answered StdProgressShape (Unit {0}) Reg
block_starts n v = answers (begins_as n v) tt v

abbrev pub block_count : StdProgressShape → ℕ
block_count (Once part) = 1
block_count (Rounds r) = r.turns
block_count (Table t) = t.turns
block_count (Capturing text) = 2

abbrev pub in_rounds : {Reg : Type 0} → Answered TurnShape RoundsShape Reg → Answered TurnShape StdProgressShape Reg
in_rounds t = record { answer = t.answer; progress = Rounds t.progress; written = t.written }

abbrev pub in_table : {Reg : Type 0} → Answered TurnShape TableShape Reg → Answered TurnShape StdProgressShape Reg
in_table t = record { answer = t.answer; progress = Table t.progress; written = t.written }

abbrev pub in_capture : {Reg : Type 0} → Answered TurnShape (Option (List ℕ)) Reg → Answered TurnShape StdProgressShape Reg
in_capture t = record { answer = t.answer; progress = Capturing t.progress; written = t.written }

-- the part that was chosen, without a frame
abbrev pub part_turn : StdProgressShape → TurnShape
part_turn (Once part) = body_turn part no_frame None
part_turn (Rounds r) = end_turn
part_turn (Table t) = end_turn
part_turn (Capturing text) = end_turn

-- what a block's turn answers
abbrev pub block_takes : {Reg : Type 0} → MarksIn Reg → StdBlockShape → StdProgressShape → View Reg
    → Answered TurnShape StdProgressShape Reg
block_takes held (shape.Raw text) p v = answers (Ok (text_turn text)) p v
block_takes held shape.Comment p v = answers (Ok end_turn) p v
block_takes held (shape.For over l) (Rounds r) v = in_rounds (loop_takes l.name r v)
block_takes held (shape.Tablerow l) (Table t) v = in_table (table_takes l.name t v)
block_takes held (shape.Capture name) (Capturing text) v = in_capture (captures name text v)
block_takes held shape.Ifchanged (Capturing text) v = in_capture (changes held text v)
block_takes held n p v = answers (Ok (part_turn p)) p v

-- a `capture` and an `ifchanged` keep the text of their part
abbrev pub block_catches : StdBlockShape → StdProgressShape → List ℕ → StdProgressShape
block_catches (shape.Capture name) p bytes = Capturing (Some bytes)
block_catches shape.Ifchanged p bytes = Capturing (Some bytes)
block_catches n p bytes = p

-- what the nodes mean
abbrev pub block_nodes : {Reg : Type 0} → MarksIn Reg → NodeMeaning StdBlockShape StdProgressShape Reg
block_nodes held = record { starts = block_starts; count = block_count; takes = block_takes held; catches = block_catches }
