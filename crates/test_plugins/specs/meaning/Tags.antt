-- What the test tags mean.
use Rattle.std.specs.Prelude.{ℕ, List, [], Option, None, Some, Result, Ok, Err, string_bytes}
use Rattle.liquid_error.specs.meaning.Refusal.{Refusal}
use Rattle.liquid_value.specs.meaning.Tree.{Tree}
use Rattle.liquid_value.specs.meaning.Render.{render}
use Rattle.liquid_runtime.specs.declared.registers.Interrupt.TheVariants.{Break}
use Rattle.liquid_runtime.specs.meaning.View.{View}
use Rattle.liquid_runtime.specs.meaning.Written.{written_of}
use Rattle.liquid_runtime.specs.meaning.Sets.{old_global, put_global}
use Rattle.liquid_runtime.specs.meaning.Frames.{no_frame}
use Rattle.liquid_plugins.specs.meaning.Evaluation.{evaluate}
use Rattle.liquid_plugins.specs.meaning.ExpressionOf.{expression_of}
use Rattle.liquid_plugins.specs.meaning.Turns.{TurnShape, text_turn, partial_turn, end_turn, Answered, NodeMeaning}
use Rattle.liquid_plugins.specs.meaning.Turning.{answers, begins_with, turned, captures_nothing}
use Rattle.test_plugins.specs.declared.tags.TagNode.{TagNode}
use Rattle.test_plugins.specs.declared.tags.TagNode.TheVariants as tag
use Rattle.test_plugins.specs.declared.tags.TagShape.{TagShape}
use Rattle.test_plugins.specs.declared.tags.TagShape.TheVariants as shape
use Rattle.test_plugins.specs.declared.tags.LeakyTagNode.{LeakyTagNode}
use Rattle.test_plugins.specs.declared.tags.LeakyTagNode.TheVariants as leaky
use Rattle.test_plugins.specs.declared.tags.LeakyTagShape.{LeakyTagShape}
use Rattle.test_plugins.specs.declared.tags.LeakyTagShape.TheVariants as leaky_shape

-- the shape of a tag
abbrev pub tag_of : TagNode → TagShape
tag_of (tag.Set name e) = shape.Set (string_bytes name) (expression_of e.value)
tag_of (tag.Inc name) = shape.Inc (string_bytes name)
tag_of tag.Brk = shape.Brk

-- the same in a language with `leak`
abbrev pub leaky_of : LeakyTagNode → LeakyTagShape
leaky_of (leaky.Plain node) = leaky_shape.Plain (tag_of node)
leaky_of (leaky.Leak name e) = leaky_shape.Leak (string_bytes name) (expression_of e.value)

-- what setting a global to this value returns: its old value
abbrev pub assigned : {Reg : Type 0} → List ℕ → Result Tree Refusal → View Reg → Answered (Option Tree) (Unit {0}) Reg
assigned name (Ok t) v = record { answer = old_global v name; progress = tt; written = written_of (put_global v name t) }
assigned name (Err refusal) v = answers (Err refusal) tt v

-- the rendered text of a value, empty if there is none
abbrev pub render_old : Option Tree → List ℕ
render_old None = []
render_old (Some t) = render t

-- what a tag's turn returns
abbrev pub tag_takes : {Reg : Type 0} → TagShape → ℕ → View Reg → Answered TurnShape ℕ Reg
tag_takes (shape.Set name e) progress v = turned (λ _. end_turn) progress (assigned name (evaluate v e) v)
tag_takes (shape.Inc name) progress v = answers (Ok (partial_turn name no_frame None)) progress v
tag_takes shape.Brk progress v =
    record { answer = Ok end_turn; progress = progress; written = record (written_of v) { interrupt = Some Break } }

abbrev pub leaky_takes : {Reg : Type 0} → LeakyTagShape → ℕ → View Reg → Answered TurnShape ℕ Reg
leaky_takes (leaky_shape.Plain node) progress v = tag_takes node progress v
leaky_takes (leaky_shape.Leak name e) progress v = turned (λ old. text_turn (render_old old)) progress (assigned name (evaluate v e) v)

-- what the nodes mean: each takes one turn
abbrev pub tag_nodes : {Reg : Type 0} → NodeMeaning TagShape ℕ Reg
tag_nodes = record { starts = λ n. begins_with 1; count = λ turns. turns; takes = tag_takes; catches = captures_nothing }

abbrev pub leaky_tag_nodes : {Reg : Type 0} → NodeMeaning LeakyTagShape ℕ Reg
leaky_tag_nodes = record { starts = λ n. begins_with 1; count = λ turns. turns; takes = leaky_takes; catches = captures_nothing }
