-- What the tags mean: those of `liquid_tags`, calls of partials with a value, `decrement`, `echo` and `cycle`.
use Rattle.std.specs.Prelude.{ℕ, length, string_bytes, Result, Ok}
use Rattle.liquid_error.specs.meaning.Refusal.{Refusal, ok_then}
use Rattle.liquid_value.specs.meaning.Render.{render}
use Rattle.liquid_value.specs.meaning.Tree.{Tree}
use Rattle.liquid_runtime.specs.meaning.View.{View}
use Rattle.liquid_plugins.specs.meaning.Chain.{FilterMeaning, chain_value}
use Rattle.liquid_plugins.specs.meaning.ExpressionOf.{chain_of}
use Rattle.liquid_plugins.specs.meaning.Turning.{answers, captures_nothing}
use Rattle.liquid_plugins.specs.meaning.Turns.{TurnShape, text_turn, end_turn, Answered, NodeMeaning}
use Rattle.liquid_tags.specs.meaning.Tags as library
use Rattle.liquid_std.specs.declared.tags.StdTag.{StdTag}
use Rattle.liquid_std.specs.declared.tags.StdTag.TheVariants as tag
use Rattle.liquid_std.specs.declared.tags.StdTagShape.{StdTagShape}
use Rattle.liquid_std.specs.declared.tags.StdTagShape.TheVariants.{Library, Decrement, Echo, Cycle, Calls}
use Rattle.liquid_std.specs.declared.tags.StdTagProgress.{StdTagProgress}
use Rattle.liquid_std.specs.declared.tags.StdTagProgress.TheVariants as progress
use Rattle.liquid_std.specs.declared.tags.StdTagProgressShape.{StdTagProgressShape}
use Rattle.liquid_std.specs.declared.tags.StdTagProgressShape.TheVariants.{Turns, Rounds}
use Rattle.liquid_std.specs.declared.inclusion.rounds.CallRoundsShape.{CallRoundsShape}
use Rattle.liquid_std.specs.meaning.inclusion.Calls.{call_of}
use Rattle.liquid_std.specs.meaning.inclusion.Rounds.{call_rounds, call_takes, rounds_of}
use Rattle.liquid_std.specs.meaning.marks.Cycles.{cycle_of, cycles}
use Rattle.liquid_std.specs.meaning.marks.Held.{MarksIn}
use Rattle.liquid_std.specs.meaning.Decrement.{decrements}
use Rattle.liquid_std.specs.meaning.Isolated.{library_turn}

-- the shape of a tag
abbrev pub tag_of : {X F : Type 0} → (X → F) → StdTag X → StdTagShape F
tag_of shape (tag.Library n) = Library (library.tag_of shape n)
tag_of shape (tag.Decrement name) = Decrement (string_bytes name)
tag_of shape (tag.Echo c) = Echo (chain_of shape c.value)
tag_of shape (tag.Cycle c) = Cycle (cycle_of c.value)
tag_of shape (tag.Calls c) = Calls (call_of c.value)

-- the shape of a tag's progress
abbrev pub progress_of : StdTagProgress → StdTagProgressShape
progress_of (progress.Turns turns) = Turns turns
progress_of (progress.Rounds r) = Rounds (rounds_of r.value)

-- a call with a value begins its rounds; any other tag takes one turn
abbrev pub begins_as : {F Reg : Type 0} → StdTagShape F → View Reg → Result StdTagProgressShape Refusal
begins_as (Calls c) v = ok_then (call_rounds v c) (λ r. Ok (Rounds r))
begins_as n v = Ok (Turns 1)

abbrev pub tag_starts : {F Reg : Type 0} → StdTagShape F → View Reg → Answered StdTagProgressShape (Unit {0}) Reg
tag_starts n v = answers (begins_as n v) tt v

-- the number of turns; of the rounds of a call there is one for each item
abbrev pub tag_count : StdTagProgressShape → ℕ
tag_count (Turns turns) = turns
tag_count (Rounds r) = length r.items

abbrev pub in_turns : {Reg : Type 0} → Answered TurnShape ℕ Reg → Answered TurnShape StdTagProgressShape Reg
in_turns t = record { answer = t.answer; progress = Turns t.progress; written = t.written }

abbrev pub in_rounds : {Reg : Type 0} → Answered TurnShape CallRoundsShape Reg → Answered TurnShape StdTagProgressShape Reg
in_rounds t = record { answer = t.answer; progress = Rounds t.progress; written = t.written }

-- the text of a chain's value
abbrev pub echo_turn : Result Tree Refusal → Result TurnShape Refusal
echo_turn value = ok_then value (λ t. Ok (text_turn (render t)))

-- what a tag's turn answers
abbrev pub tag_takes : {F Reg : Type 0} → MarksIn Reg → FilterMeaning F → StdTagShape F → StdTagProgressShape → View Reg
    → Answered TurnShape StdTagProgressShape Reg
tag_takes held m (Library n) (Turns turns) v = in_turns (library_turn (library.tag_takes m n turns v))
tag_takes held m (Library n) (Rounds r) v = answers (Ok end_turn) (Rounds r) v
tag_takes held m (Calls c) (Turns turns) v = answers (Ok end_turn) (Turns turns) v
tag_takes held m (Calls c) (Rounds r) v = in_rounds (call_takes r v)
tag_takes held m (Decrement name) p v = decrements name p v
tag_takes held m (Echo c) p v = answers (echo_turn (chain_value m c v)) p v
tag_takes held m (Cycle c) p v = cycles held c p v

-- what the nodes mean
abbrev pub tag_nodes : {F Reg : Type 0} → MarksIn Reg → FilterMeaning F → NodeMeaning (StdTagShape F) StdTagProgressShape Reg
tag_nodes held m = record { starts = tag_starts; count = tag_count; takes = tag_takes held m; catches = captures_nothing }
