-- The turns of a `tablerow` are the texts between its cells and the bodies of its items.
use Rattle.std.proofs.Common.{
  ◌≡◌,
  ℕ,
  zero,
  suc,
  ◌+◌,
  ℤ,
  pos,
  List,
  [],
  ◌∷◌,
  length,
  Bool,
  true,
  false,
  cond,
  Option,
  None,
  Some,
  Result,
  Ok,
  refl,
  ap,
  ◌∙◌,
  add-one,
  arith,
}
use Rattle.std.specs.Prelude.{not, ◌&&◌, nat_lt, unwrap_or}
use Rattle.std.proofs.lemmas.Bool.{le-ltb, lt-ltb}
use Rattle.liquid_error.specs.meaning.Refusal.{Refusal, ok_then}
use Rattle.liquid_value.specs.meaning.Tree.{Tree}
use Rattle.liquid_runtime.specs.meaning.Frames.{no_frame}
use Rattle.liquid_runtime.specs.meaning.View.{View}
use Rattle.liquid_plugins.specs.meaning.Chain.{FilterMeaning}
use Rattle.liquid_template.specs.meaning.Actions.{and_then, asks, part_at, under, writes}
use Rattle.liquid_template.specs.meaning.Nodes.{Setting, performed, played, run_parts, started, turns}
use Rattle.liquid_template.specs.meaning.Partials.{partials_at}
use Rattle.liquid_template.specs.meaning.Run.{Action, Run}
use Rattle.liquid_tags.specs.laws.LoopRuns.{cleared, leaves}
use Rattle.liquid_tags.specs.meaning.Loops.{is_left}
use Rattle.liquid_std.specs.declared.iteration.loops.LoopShape.{LoopShape}
use Rattle.liquid_std.specs.declared.iteration.scalars.OverScalar.TheVariants.{Refused}
use Rattle.liquid_std.specs.declared.iteration.tables.Stage.{Stage}
use Rattle.liquid_std.specs.declared.iteration.tables.Stage.TheVariants.{Text, Body, End}
use Rattle.liquid_std.specs.declared.iteration.tables.TableShape.{TableShape}
use Rattle.liquid_std.specs.meaning.iteration.Cells.{text_between}
use Rattle.liquid_std.specs.meaning.iteration.Loops.{picked_items}
use Rattle.liquid_std.specs.meaning.iteration.Options.{option_number}
use Rattle.liquid_std.specs.meaning.iteration.Picked.{natural}
use Rattle.liquid_std.specs.meaning.iteration.Tables.{is_over_nil, table, table_over}
use Rattle.liquid_std.specs.meaning.marks.Held.{MarksIn}
use Rattle.liquid_std.specs.declared.blocks.StdBlockShape.TheVariants.{Tablerow}
use Rattle.liquid_std.specs.declared.blocks.StdProgressShape.{StdProgressShape}
use Rattle.liquid_std.specs.declared.blocks.StdProgressShape.TheVariants as progress
use Rattle.liquid_std.specs.meaning.Blocks.{block_nodes, over_table}
use Rattle.liquid_std.specs.meaning.Standard.{standard}
use Rattle.liquid_laws.specs.laws.loops.Tables.{GoesOver, NilRuns, TableRuns}
use Rattle.liquid_laws.specs.laws.loops.ForRuns.{part_alone}
use Rattle.liquid_laws.specs.laws.loops.TableRuns.{after_cell, cell_run, closing, table_run}
use Rattle.liquid_laws.proofs.EndsLemmas.{then_done, then_same, unframed}
use Rattle.liquid_tags.proofs.LoopRunLemmas.{asked, left_by, left_clear}
use Rattle.liquid_tags.proofs.LoopRunLemmas.{is_left_by}

-- a text and a body for each item
abbrev twice : ℕ → ℕ
twice zero = zero
twice (suc n) = suc (suc (twice n))

twice_is : (n : ℕ) → n + n ≡ twice n
twice_is zero = refl
twice_is (suc n) = let before = twice_is n in omega arith

counted : (n : ℕ) → n + n + 2 ≡ suc (suc (twice n))
counted n = let same = twice_is n in omega arith

module _ {Reg F T P B Q : Type 0} (s : Setting Reg F T P B Q) (partials : List ℕ → Action Reg) (held : MarksIn Reg) (l : LoopShape)
    (parts : List (Action Reg)) (size columns n : ℕ) where
  abbrev shape_at : List Tree → ℕ → Stage → TableShape
  shape_at ts place stage = record { left = ts; place = place; size = size; columns = columns; stage = stage; turns = n }

  abbrev table_at : List Tree → ℕ → Stage → StdProgressShape
  table_at ts place stage = progress.Table (shape_at ts place stage)

  abbrev takes_turns : ℕ → StdProgressShape → Action Reg
  takes_turns = turns s partials (block_nodes held) (Tablerow l) parts

  abbrev cell_at : ℕ → Tree → Action Reg
  cell_at = cell_run s.fresh l.name size columns (part_at parts 0)

  abbrev rest_at : ℕ → List Tree → Action Reg
  rest_at = after_cell s.fresh l.name size columns (part_at parts 0)

  abbrev closed : ℕ → Action Reg
  closed = closing s.fresh l.name size columns (part_at parts 0)

  -- a text that another item follows, or that ends the table, and the turns after it
  abbrev texted : ℕ → List Tree → ℕ → Bool → Action Reg
  texted left ts place more v =
      and_then (writes (text_between columns place more) v) (takes_turns left (table_at ts place (cond more Body End)))

  -- a turn that is a text
  text_turned : (left place : ℕ) (ts : List Tree) (v : View Reg)
      → takes_turns (suc left) (table_at ts place Text) v
      ≡ and_then (asks v) (λ w. texted left ts place (nat_lt place size && not (is_left place w.interrupt)) (left_by place w))
  unfolding turns performed
  text_turned left place ts v = refl

  -- the last text
  text_ends : (left place : ℕ) (ts : List Tree) (v : View Reg) → texted (suc left) ts place false v ≡ closed place v
  unfolding turns performed
  text_ends left place ts v = refl

  -- a text and the body after it
  text_opens : (left place : ℕ) (t : Tree) (ts : List Tree) (v : View Reg)
      → texted (suc left) (t ∷ ts) place true v
      ≡ and_then (writes (text_between columns place true) v) (λ x. and_then (asks x) (λ y.
      and_then (cell_at place t y) (takes_turns left (table_at ts (place + 1) Text))))
  unfolding turns performed
  text_opens left place t ts v = refl

  -- the text after the last item
  last_text : (b : Bool) (left place : ℕ) (v : View Reg) → place + 0 ≡ size
      → texted (suc left) [] place (nat_lt place size && b) v ≡ closed place v
  last_text b left place v all =
      ap (λ (more : Bool). texted (suc left) [] place (more && b) v) (le-ltb place size (omega arith)) ∙ text_ends left place [] v

  either : (b : Bool) (left place : ℕ) (t : Tree) (ts : List Tree) (v : View Reg) (opens : Run Reg)
      → texted (suc left) (t ∷ ts) place true v ≡ opens
      → texted (suc left) (t ∷ ts) place (true && not b) v ≡ cond b (closed place v) opens
  either true left place t ts v opens same = text_ends left place (t ∷ ts) v
  either false left place t ts v opens same = same

  -- the turns after a body
  turns_after : (ts : List Tree) (place k count : ℕ) (v : View Reg) → place ≡ suc k → place + length ts ≡ size
      → count ≡ suc (suc (twice (length ts))) → takes_turns count (table_at ts place Text) v ≡ rest_at place ts v
  turns_after [] place k count v is_later all counted =
      ap (λ c. takes_turns c (table_at [] place Text) v) counted ∙ text_turned 1 place [] v
      ∙ asked v (ap (texted 1 [] place (nat_lt place size && not (is_left place v.interrupt))) (left_clear place k v is_later)
      ∙ last_text (not (is_left place v.interrupt)) 0 place (cleared v) all)
  turns_after (t ∷ ts) place k count v is_later all counted =
      let left = suc (suc (twice (length ts))) in
      ap (λ c. takes_turns c (table_at (t ∷ ts) place Text) v) counted ∙ text_turned (suc left) place (t ∷ ts) v
      ∙ asked v (ap (texted (suc left) (t ∷ ts) place (nat_lt place size && not (is_left place v.interrupt)))
      (left_clear place k v is_later)
      ∙ ap (λ (b : Bool). texted (suc left) (t ∷ ts) place (b && not (is_left place v.interrupt)) (cleared v))
      (lt-ltb place size (omega arith))
      ∙ ap (λ (b : Bool). texted (suc left) (t ∷ ts) place (true && not b) (cleared v)) (is_left_by place k v.interrupt is_later)
      ∙ either (leaves v.interrupt) left place t ts (cleared v)
      (and_then (writes (text_between columns place true) (cleared v)) (λ x. and_then (asks x) (λ y.
      and_then (cell_at place t y) (rest_at (place + 1) ts))))
      (text_opens left place t ts (cleared v)
      ∙ then_same (writes (text_between columns place true) (cleared v))
      (λ x. and_then (asks x) (λ y. and_then (cell_at place t y) (takes_turns left (table_at ts (place + 1) Text))))
      (λ x. and_then (asks x) (λ y. and_then (cell_at place t y) (rest_at (place + 1) ts)))
      (λ x. asked x (then_same (cell_at place t x) (takes_turns left (table_at ts (place + 1) Text)) (rest_at (place + 1) ts)
      (λ y. turns_after ts (place + 1) place left y (add-one place) (omega arith) refl)))))

  -- all turns
  pub all_turns : (ts : List Tree) (v : View Reg) → length ts ≡ size
      → takes_turns (suc (suc (twice (length ts)))) (table_at ts 0 Text) v ≡ table_run s.fresh l.name size columns (part_at parts 0) ts v
  all_turns [] v all =
      text_turned 1 0 [] v ∙ asked v (last_text (not (is_left 0 v.interrupt)) 0 0 v (omega arith))
  all_turns (t ∷ ts) v all =
      let left = suc (suc (twice (length ts))) in
      text_turned (suc left) 0 (t ∷ ts) v
      ∙ asked v (ap (λ (b : Bool). texted (suc left) (t ∷ ts) 0 (b && true) v) (lt-ltb 0 size (omega arith))
      ∙ text_opens left 0 t ts v
      ∙ then_same (writes (text_between columns 0 true) v)
      (λ x. and_then (asks x) (λ y. and_then (cell_at 0 t y) (takes_turns left (table_at ts 1 Text))))
      (λ x. and_then (asks x) (λ y. and_then (cell_at 0 t y) (rest_at 1 ts)))
      (λ x. asked x (then_same (cell_at 0 t x) (takes_turns left (table_at ts 1 Text)) (rest_at 1 ts)
      (λ y. turns_after ts 1 0 left y refl (omega arith) refl))))

module _ {Reg : Type 0} (v : View Reg) (l : LoopShape) where
  -- the table over the items
  abbrev tabled : Result Bool Refusal → Result (List Tree) Refusal → Result (Option ℤ) Refusal → Result (Option TableShape) Refusal
  tabled nothing items columns =
      ok_then nothing (λ n. cond n (Ok None) (ok_then items (λ ts. ok_then columns
      (λ c. Ok (Some (table ts (natural (unwrap_or c (pos 0)))))))))

  over : (ts : List Tree) (columns : ℕ) → GoesOver v l ts columns → table_over v l ≡ Ok (Some (table ts columns))
  over ts columns goes =
      ap (λ r. tabled r (picked_items Refused v l) (option_number v l.options.cols)) goes.0
      ∙ ap (λ r. tabled (Ok false) r (option_number v l.options.cols)) goes.1 ∙ ap (tabled (Ok false) (Ok ts)) goes.2.1
      ∙ ap (λ k. Ok (Some (table ts k))) goes.2.2

  over_nil : is_over_nil v l.series ≡ Ok true → table_over v l ≡ Ok None
  over_nil nothing = ap (λ r. tabled r (picked_items Refused v l) (option_number v l.options.cols)) nothing

module _ {Reg F T P B Q : Type 0} (s : Setting Reg F T P B Q) (partials : List ℕ → Action Reg) (held : MarksIn Reg) (l : LoopShape)
    (parts : List (Action Reg)) where
  abbrev starts_over : Result (Option TableShape) Refusal → Action Reg
  starts_over r = started s partials (block_nodes held) (Tablerow l) parts (ok_then r (λ t. Ok (over_table t)))

  pub table_played : (ts : List Tree) (columns : ℕ) (v : View Reg) → GoesOver v l ts columns
      → played s partials (block_nodes held) (Tablerow l) parts v ≡ table_run s.fresh l.name (length ts) columns (part_at parts 0) ts v
  unfolding played
  table_played ts columns v goes =
      let count = length ts + length ts + 2 in
      ap (λ r. starts_over r v) (over v l ts columns goes)
      ∙ ap (λ c. turns s partials (block_nodes held) (Tablerow l) parts c (progress.Table (table ts columns)) v) (counted (length ts))
      ∙ all_turns s partials held l parts (length ts) columns count ts v refl

  pub nil_played : (v : View Reg) → is_over_nil v l.series ≡ Ok true
      → played s partials (block_nodes held) (Tablerow l) parts v ≡ part_alone (part_at parts 1) v
  unfolding played turns performed
  nil_played v nothing =
      ap (λ r. starts_over r v) (over_nil v l nothing)
      ∙ asked v (then_done (under s.fresh no_frame None (part_at parts 1) v) ∙ unframed s.fresh (part_at parts 1) v)

module _ {Reg F : Type 0} (held : MarksIn Reg) (fresh : Reg) (m : FilterMeaning F) where
  pub table_runs : TableRuns held fresh m
  table_runs finds depth l ps v ts columns =
      let s = standard held fresh m finds in
      table_played s (partials_at s depth) held l (run_parts s (partials_at s depth) ps) ts columns v

  pub nil_runs : NilRuns held fresh m
  nil_runs finds depth l ps =
      let s = standard held fresh m finds in
      nil_played s (partials_at s depth) held l (run_parts s (partials_at s depth) ps)
