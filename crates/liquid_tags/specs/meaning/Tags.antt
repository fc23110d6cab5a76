-- What the tags mean.
use Rattle.std.specs.Prelude.{ℕ, List, map, string_bytes, Some, Result, Ok, Err}
use Rattle.liquid_error.specs.meaning.Refusal.{Refusal, ok_then}
use Rattle.liquid_value.specs.meaning.Tree.{Tree}
use Rattle.liquid_runtime.specs.meaning.View.{View}
use Rattle.liquid_runtime.specs.meaning.Sets.{old_global, put_global}
use Rattle.liquid_plugins.specs.meaning.Chain.{FilterMeaning, chain_value}
use Rattle.liquid_plugins.specs.meaning.ExpressionOf.{chain_of, expression_of}
use Rattle.liquid_plugins.specs.meaning.Turns.{TurnShape, end_turn, Answered, NodeMeaning}
use Rattle.liquid_tags.specs.meaning.Counters.{increments}
use Rattle.liquid_tags.specs.meaning.Partials.{included, pair_of}
use Rattle.liquid_plugins.specs.meaning.Turning.{answers, begins_with, captures_nothing}
use Rattle.liquid_tags.specs.declared.tags.TagNode.{TagNode}
use Rattle.liquid_tags.specs.declared.tags.TagNode.TheVariants as tag
use Rattle.liquid_tags.specs.declared.tags.TagShape.{TagShape}
use Rattle.liquid_tags.specs.declared.tags.TagShape.TheVariants.{Assign, Increment, Interrupts, Includes}

-- the shape of a tag
abbrev pub tag_of : {X F : Type 0} → (X → F) → TagNode X → TagShape F
tag_of shape (tag.Assign name c) = Assign (string_bytes name) (chain_of shape c.value)
tag_of shape (tag.Increment name) = Increment (string_bytes name)
tag_of shape (tag.Interrupts i) = Interrupts i
tag_of shape (tag.Includes i c) = Includes i (expression_of c.value.name) (map pair_of c.value.pairs.items)

-- a name is assigned; nothing is assigned if the chain is refused
abbrev pub assigns : {P Reg : Type 0} → List ℕ → Result Tree Refusal → P → View Reg → Answered TurnShape P Reg
assigns name (Ok t) p v = answers (ok_then (old_global v name) (λ old. Ok end_turn)) p (put_global v name t)
assigns name (Err refusal) p v = answers (Err refusal) p v

-- what a tag's turn returns
abbrev pub tag_takes : {F P Reg : Type 0} → FilterMeaning F → TagShape F → P → View Reg → Answered TurnShape P Reg
tag_takes m (Assign name c) p v = assigns name (chain_value m c v) p v
tag_takes m (Increment name) p v = increments name p v
tag_takes m (Interrupts i) p v = answers (Ok end_turn) p (record v { interrupt = Some i })
tag_takes m (Includes i e ps) p v = answers (included i e ps v) p v

-- what the nodes mean: each takes one turn
abbrev pub tag_nodes : {F Reg : Type 0} → FilterMeaning F → NodeMeaning (TagShape F) ℕ Reg
tag_nodes m = record { starts = λ n. begins_with 1; count = λ turns. turns; takes = tag_takes m; catches = captures_nothing }
