-- Tables: what each goes over, and its turns, which are texts and the bodies of the items.
use Rattle.std.specs.Prelude.{
  ℕ,
  ◌+◌,
  pos,
  List,
  drop,
  length,
  slice_get,
  codes,
  Bool,
  true,
  false,
  not,
  ◌&&◌,
  cond,
  nat_lt,
  Option,
  None,
  Some,
  unwrap_or,
  Result,
  Ok,
}
use Rattle.std.specs.FinMap.{empty, insert}
use Rattle.liquid_error.specs.meaning.Refusal.{Refusal, ok_then}
use Rattle.liquid_value.specs.meaning.Tree.{Tree, nil}
use Rattle.liquid_runtime.specs.meaning.Frames.{stack_frame}
use Rattle.liquid_runtime.specs.meaning.Maps.{Names}
use Rattle.liquid_runtime.specs.meaning.View.{View}
use Rattle.liquid_plugins.specs.meaning.Evaluation.{evaluate}
use Rattle.liquid_plugins.specs.meaning.Turning.{answers}
use Rattle.liquid_plugins.specs.meaning.Turns.{TurnShape, text_turn, body_turn, end_turn, Answered}
use Rattle.liquid_tags.specs.declared.for_block.series.SeriesShape.{SeriesShape}
use Rattle.liquid_tags.specs.declared.for_block.series.SeriesShape.TheVariants.{Of, Between}
use Rattle.liquid_tags.specs.meaning.Loops.{is_left, rested}
use Rattle.liquid_std.specs.declared.iteration.loops.LoopShape.{LoopShape}
use Rattle.liquid_std.specs.declared.iteration.scalars.OverScalar.TheVariants.{Refused}
use Rattle.liquid_std.specs.declared.iteration.tables.Stage.{Stage}
use Rattle.liquid_std.specs.declared.iteration.tables.Stage.TheVariants.{Text, Body, End}
use Rattle.liquid_std.specs.declared.iteration.tables.Table.{Table}
use Rattle.liquid_std.specs.declared.iteration.tables.TableShape.{TableShape}
use Rattle.liquid_std.specs.meaning.iteration.Cells.{tablerowloop, text_between}
use Rattle.liquid_std.specs.meaning.iteration.Loops.{picked_items}
use Rattle.liquid_std.specs.meaning.iteration.Options.{option_number}
use Rattle.liquid_std.specs.meaning.iteration.Picked.{natural, picked_left}

-- the shape of a table's progress
abbrev pub table_of : Table → TableShape
table_of t = record { left = picked_left t.left; place = t.place; size = t.size; columns = t.columns; stage = t.stage; turns = t.turns }

-- a table of these items in this number of columns: a text and a body for each item, the last text, and the end
abbrev pub table : List Tree → ℕ → TableShape
table ts columns = record { left = ts; place = 0; size = length ts; columns = columns; stage = Text; turns = length ts + length ts + 2 }

abbrev pub is_nil : Tree → Bool
is_nil nil = true
is_nil t = false

abbrev pub is_over_nil : {Reg : Type 0} → View Reg → SeriesShape → Result Bool Refusal
is_over_nil v (Of e) = ok_then (evaluate v e) (λ t. Ok (is_nil t))
is_over_nil v (Between from to) = Ok false

-- the table over the items of a loop, in as many columns as `cols` says, which is evaluated last; over nil there is none
abbrev pub table_over : {Reg : Type 0} → View Reg → LoopShape → Result (Option TableShape) Refusal
table_over v l =
    ok_then (is_over_nil v l.series) (λ nothing. cond nothing (Ok None)
    (ok_then (picked_items Refused v l) (λ ts. ok_then (option_number v l.options.cols) (λ columns.
    Ok (Some (table ts (natural (unwrap_or columns (pos 0)))))))))

-- the names of the frame of an item: `tablerowloop` and the table's own name, which wins
abbrev pub names_of_cell : List ℕ → Tree → Tree → Names
names_of_cell name cell t = insert (insert empty (codes "tablerowloop") cell) name t

-- the turn of the item at a place, or the end if there is none
abbrev pub cell_turn : List ℕ → ℕ → ℕ → ℕ → Option Tree → TurnShape
cell_turn name columns place size None = end_turn
cell_turn name columns place size (Some t) = body_turn 0 (stack_frame (names_of_cell name (tablerowloop columns place size) t) None) None

-- whether another item comes
abbrev pub goes_on : TableShape → Bool → Bool
goes_on t left_early = nat_lt t.place t.size && not left_early

abbrev pub text_at : TableShape → Bool → List ℕ
text_at t left_early = text_between t.columns t.place (goes_on t left_early)

-- the table after a text, and after a body, for which the next item is taken out
abbrev pub after_text : TableShape → Bool → TableShape
after_text t left_early = record t { stage = cond (goes_on t left_early) Body End }

abbrev pub body_of : List ℕ → TableShape → TurnShape
body_of name t = cell_turn name t.columns t.place t.size (slice_get t.left 0)

abbrev pub after_body : TableShape → TableShape
after_body t = record t { left = drop 1 t.left; place = t.place + 1; stage = Text }

-- what a turn is: a text and a body in alternation, and the end after the last text; `break` leaves the table
abbrev pub stage_takes : {Reg : Type 0} → Stage → List ℕ → TableShape → View Reg → Answered TurnShape TableShape Reg
stage_takes Text name t v =
    answers (Ok (text_turn (text_at t (is_left t.place v.interrupt)))) (after_text t (is_left t.place v.interrupt)) (rested t.place v)
stage_takes Body name t v = answers (Ok (body_of name t)) (after_body t) v
stage_takes End name t v = answers (Ok end_turn) t v

abbrev pub table_takes : {Reg : Type 0} → List ℕ → TableShape → View Reg → Answered TurnShape TableShape Reg
table_takes name t v = stage_takes t.stage name t v
