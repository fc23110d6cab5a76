-- What the malicious tags and blocks mean.
use Rattle.std.specs.Prelude.{ℕ, codes, None, Ok}
use Rattle.liquid_runtime.specs.meaning.View.{View}
use Rattle.liquid_runtime.specs.meaning.Frames.{no_frame}
use Rattle.liquid_plugins.specs.meaning.Turns.{TurnShape, text_turn, body_turn, end_turn, Answered, NodeMeaning}
use Rattle.liquid_plugins.specs.meaning.Turning.{answers, begins_with, captures_nothing}
use Rattle.test_plugins.specs.meaning.Tags.{tag_of, tag_takes}
use Rattle.test_plugins.specs.meaning.Blocks.{block_of, block_takes, once}
use Rattle.test_plugins.specs.declared.blocks.Stage.{Stage}
use Rattle.test_plugins.specs.declared.blocks.Stage.TheVariants.{First, Over}
use Rattle.test_plugins.specs.declared.hostile.HostileTagNode.{HostileTagNode}
use Rattle.test_plugins.specs.declared.hostile.HostileTagNode.TheVariants as tag
use Rattle.test_plugins.specs.declared.hostile.HostileTagShape.{HostileTagShape}
use Rattle.test_plugins.specs.declared.hostile.HostileTagShape.TheVariants as shape
use Rattle.test_plugins.specs.declared.hostile.HostileBlockNode.{HostileBlockNode}
use Rattle.test_plugins.specs.declared.hostile.HostileBlockNode.TheVariants as block
use Rattle.test_plugins.specs.declared.hostile.HostileBlockShape.{HostileBlockShape}
use Rattle.test_plugins.specs.declared.hostile.HostileBlockShape.TheVariants as block_shape

-- the shapes
abbrev pub hostile_tag_of : HostileTagNode → HostileTagShape
hostile_tag_of (tag.Plain node) = shape.Plain (tag_of node)
hostile_tag_of tag.Spin = shape.Spin
hostile_tag_of tag.Mute = shape.Mute

abbrev pub hostile_block_of : HostileBlockNode → HostileBlockShape
hostile_block_of (block.Plain node) = block_shape.Plain (block_of node)
hostile_block_of block.Far = block_shape.Far

-- the number of turns that a tag says it has
abbrev pub turns_said : HostileTagShape → ℕ
turns_said (shape.Plain node) = 1
turns_said shape.Spin = 3
turns_said shape.Mute = 0

-- what a turn returns; `spin` and `mute` never say that they have ended
abbrev pub hostile_tag_takes : {Reg : Type 0} → HostileTagShape → ℕ → View Reg → Answered TurnShape ℕ Reg
hostile_tag_takes (shape.Plain node) progress v = tag_takes node progress v
hostile_tag_takes shape.Spin progress v = answers (Ok (text_turn (codes "s"))) progress v
hostile_tag_takes shape.Mute progress v = answers (Ok (text_turn (codes "s"))) progress v

-- `far` requests once a part that it does not have
abbrev pub hostile_block_takes : {Reg : Type 0} → HostileBlockShape → Stage → View Reg → Answered TurnShape Stage Reg
hostile_block_takes (block_shape.Plain node) stage v = block_takes node stage v
hostile_block_takes block_shape.Far stage v = answers (Ok (once (body_turn 9 no_frame None) end_turn stage)) Over v

-- what the nodes mean
abbrev pub hostile_tag_nodes : {Reg : Type 0} → NodeMeaning HostileTagShape ℕ Reg
hostile_tag_nodes =
    record { starts = λ n. begins_with (turns_said n); count = λ turns. turns; takes = hostile_tag_takes; catches = captures_nothing }

abbrev pub hostile_block_nodes : {Reg : Type 0} → NodeMeaning HostileBlockShape Stage Reg
hostile_block_nodes =
    record { starts = λ n. begins_with First; count = λ stage. 3; takes = hostile_block_takes; catches = captures_nothing }
