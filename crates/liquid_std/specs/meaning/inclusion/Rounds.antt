-- The rounds of a call: one for each item that it passes.
use Rattle.std.specs.Prelude.{
  ℕ,
  ◌+◌,
  List,
  [],
  ◌∷◌,
  ◌++◌,
  codes,
  Bool,
  true,
  false,
  cond,
  length,
  map,
  slice_get,
  string_bytes,
  String,
  unwrap_or,
}
use Rattle.std.specs.Prelude.{Option, None, Some, Result, Ok}
use Rattle.std.specs.FinMap.{empty, insert}
use Rattle.std.specs.Path.{path_file_name}
use Rattle.std.specs.declared.alloc.Global.{Global}
use Rattle.liquid_error.specs.meaning.Refusal.{Refusal, ok_then}
use Rattle.liquid_value.specs.declared.value.Value.{Value}
use Rattle.liquid_value.specs.meaning.Tree.{Tree, nil}
use Rattle.liquid_value.specs.meaning.View.{view}
use Rattle.liquid_runtime.specs.meaning.Frames.{FrameShape, isolated_frame, stack_frame}
use Rattle.liquid_runtime.specs.meaning.Maps.{Names}
use Rattle.liquid_runtime.specs.meaning.View.{View}
use Rattle.liquid_plugins.specs.meaning.Evaluation.{evaluate}
use Rattle.liquid_plugins.specs.meaning.Turning.{answers}
use Rattle.liquid_plugins.specs.meaning.Turns.{TurnShape, end_turn, partial_turn, Answered}
use Rattle.liquid_tags.specs.declared.partial_call.call.Inclusion.{Inclusion}
use Rattle.liquid_tags.specs.declared.partial_call.call.Inclusion.TheVariants.{Include, Render}
use Rattle.liquid_runtime.specs.meaning.LoopNames.{forloop}
use Rattle.liquid_tags.specs.meaning.Partials.{Pair, partial_name, word_of}
use Rattle.liquid_std.specs.declared.inclusion.calls.PartialCallShape.{PartialCallShape}
use Rattle.liquid_std.specs.declared.inclusion.rounds.CallRounds.{CallRounds}
use Rattle.liquid_std.specs.declared.inclusion.rounds.CallRoundsShape.{CallRoundsShape}
use Rattle.liquid_std.specs.meaning.inclusion.Passed.{items_passed, passes}

-- a name with its value
abbrev pub Given : Type 0
Given = List ℕ × Tree

abbrev pub given_of : String Global × Value → Given
given_of g = (string_bytes g.0, view g.1)

-- the shape of a call's progress
abbrev pub rounds_of : CallRounds → CallRoundsShape
rounds_of r = record {
  inclusion = r.inclusion;
  name = string_bytes r.name;
  key = string_bytes r.key;
  given = map given_of r.given.items;
  items = items_passed r.items;
  is_loop = r.is_loop;
  place = r.place;
}

-- the name of what is passed: the last part of the partial's name as a path, or that name if it has no such part
abbrev pub key_in : List ℕ → List ℕ
key_in name = unwrap_or (path_file_name name) name

abbrev pub key_of : Option (List ℕ) → List ℕ → List ℕ
key_of alias name = unwrap_or alias (key_in name)

-- the values of pairs, from left to right
abbrev pub given_in : {Reg : Type 0} → View Reg → List Pair → Result (List Given) Refusal
given_in v [] = Ok []
given_in v (p ∷ ps) = ok_then (evaluate v p.1) (λ t. ok_then (given_in v ps) (λ given. Ok ((p.0, t) ∷ given)))

-- the rounds of a call, before the first
abbrev pub begun : PartialCallShape → List ℕ → List Tree × Bool → List Given → CallRoundsShape
begun c name passed given = record {
  inclusion = c.inclusion;
  name = name;
  key = key_of c.alias name;
  given = given;
  items = passed.0;
  is_loop = passed.1;
  place = 0;
}

-- a call's start: the name of the partial is evaluated, then what is passed, and then the pairs
abbrev pub call_rounds : {Reg : Type 0} → View Reg → PartialCallShape → Result CallRoundsShape Refusal
call_rounds v c =
    ok_then (evaluate v c.name) (λ t. ok_then (partial_name t) (λ name. ok_then (passes v c.manner c.series) (λ passed.
    ok_then (given_in v c.pairs) (λ given. Ok (begun c name passed given)))))

-- names, and the pairs that are given over them
abbrev pub with_given : Names → List Given → Names
with_given names [] = names
with_given names (g ∷ given) = with_given (insert names g.0 g.1) given

-- `forloop`, in a loop
abbrev pub loop_names : Bool → ℕ → ℕ → Names
loop_names is_loop place size = cond is_loop (insert empty (codes "forloop") (forloop place size)) empty

-- names, and over them what is passed; nil gives a partial of `render` no name
abbrev pub has_name : Inclusion → Tree → Bool
has_name Render nil = false
has_name i t = true

abbrev pub with_item : Inclusion → List ℕ → Tree → Names → Names
with_item i key t names = cond (has_name i t) (insert names key t) names

abbrev pub names_at : CallRoundsShape → Tree → Names
names_at r t = with_item r.inclusion r.key t (with_given (loop_names r.is_loop r.place (length r.items)) r.given)

-- `include` shows the names over those that are seen, and `render` shows only them; the frame has the partial's name
abbrev pub frame_for : Inclusion → Names → List ℕ → FrameShape
frame_for Include names name = stack_frame names (Some name)
frame_for Render names name = isolated_frame names (Some name)

abbrev pub partial_for : Inclusion → List ℕ → Names → TurnShape
partial_for i name names = partial_turn name (frame_for i names name) (Some (word_of i ++ (codes " " ++ name)))

-- the partial for an item, or the end if there is none
abbrev pub turn_at : CallRoundsShape → Option Tree → TurnShape
turn_at r None = end_turn
turn_at r (Some t) = partial_for r.inclusion r.name (names_at r t)

abbrev pub following : CallRoundsShape → CallRoundsShape
following r = record r { place = r.place + 1 }

-- what a turn answers: the partial for the item at its place
abbrev pub call_takes : {Reg : Type 0} → CallRoundsShape → View Reg → Answered TurnShape CallRoundsShape Reg
call_takes r v = answers (Ok (turn_at r (slice_get r.items r.place))) (following r) v
