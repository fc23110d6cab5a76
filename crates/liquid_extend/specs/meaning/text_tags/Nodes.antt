-- What text tags render.
use Rattle.std.specs.Prelude.{ℕ, Result, Ok}
use Rattle.liquid_error.specs.meaning.Refusal.{Refusal, ok_then}
use Rattle.liquid_runtime.specs.meaning.View.{View}
use Rattle.liquid_plugins.specs.meaning.Turning.{answers, begins_with, captures_nothing}
use Rattle.liquid_plugins.specs.meaning.Turns.{TurnShape, text_turn, NodeMeaning}
use Rattle.liquid_filters.specs.declared.call.CallShape.{CallShape}
use Rattle.liquid_filters.specs.meaning.Calls.{evaluate_arguments}
use Rattle.liquid_extend.specs.declared.text_tags.kind.TagAnswer.{TagAnswer}
use Rattle.liquid_extend.specs.meaning.text_tags.Sense.{TextTagSense}

module _ {K : Type 0} (sense : K → TextTagSense) where
  -- the arguments are evaluated, and the tag's text for their values is written
  abbrev pub tag_turn : {Reg : Type 0} → CallShape (TagAnswer K) → View Reg → Result TurnShape Refusal
  tag_turn call v =
      ok_then (evaluate_arguments v call.positional call.keyword) (λ given. ok_then ((sense call.kind.tag).answers given)
      (λ bytes. Ok (text_turn bytes)))

  -- each takes one turn, and changes nothing
  abbrev pub text_nodes : {Reg : Type 0} → NodeMeaning (CallShape (TagAnswer K)) ℕ Reg
  text_nodes = record {
    starts = λ call. begins_with 1;
    count = λ turns. turns;
    takes = λ call progress v. answers (tag_turn call v) progress v;
    catches = captures_nothing;
  }
