-- A `tablerow` writes its rows.
use Rattle.std.proofs.Common.{◌≡◌, ℕ, ◌+◌, List, [], ◌∷◌, ◌++◌, length, Bool, true, false, cond, refl, sym, ◌∙◌, subst}
use Rattle.std.proofs.lemmas.List.{append-nil}
use Rattle.liquid_value.specs.meaning.Tree.{Tree}
use Rattle.liquid_runtime.specs.meaning.View.{View}
use Rattle.liquid_plugins.specs.meaning.Chain.{FilterMeaning}
use Rattle.liquid_template.specs.meaning.Actions.{and_then, asks, writes}
use Rattle.liquid_template.specs.meaning.Run.{Action, Run}
use Rattle.liquid_template.specs.meaning.Runs.{part_run}
use Rattle.liquid_tags.specs.laws.LoopRuns.{cleared, leaves}
use Rattle.liquid_std.specs.meaning.iteration.Cells.{text_between}
use Rattle.liquid_std.specs.meaning.marks.Held.{MarksIn}
use Rattle.liquid_std.specs.meaning.Standard.{standard}
use Rattle.liquid_laws.specs.laws.loops.Tables.{TableWrites}
use Rattle.liquid_laws.specs.laws.loops.Bodies.{Bodies, no_more, leaves_off, goes_on}
use Rattle.liquid_laws.specs.meaning.loops.Ends.{Ends}
use Rattle.liquid_laws.specs.meaning.loops.Rows.{in_rows, rows_text}
use Rattle.liquid_laws.specs.laws.loops.TableRuns.{after_cell, cell_run, closing, table_run}
use Rattle.liquid_laws.proofs.EndsLemmas.{asks_ends, then_ends, writes_ends}
use Rattle.liquid_laws.proofs.RowLemmas.{around, rows_around}
use Rattle.liquid_laws.proofs.TableRunLemmas.{table_runs}

module _ {Reg : Type 0} (fresh : Reg) (name : List ℕ) (size columns : ℕ) (body : Action Reg) where
  abbrev cell_at : ℕ → Tree → Action Reg
  cell_at = cell_run fresh name size columns body

  abbrev rest_at : ℕ → List Tree → Action Reg
  rest_at = after_cell fresh name size columns body

  abbrev closed : ℕ → Action Reg
  closed = closing fresh name size columns body

  -- the next cell, in a view without an interrupt
  abbrev opened : ℕ → Tree → List Tree → Action Reg
  opened place t ts v =
      and_then (writes (text_between columns place true) v) (λ x. and_then (asks x) (λ y.
      and_then (cell_at place t y) (rest_at (place + 1) ts)))

  closes : (place : ℕ) (v : View Reg) → Ends (closed place v) (text_between columns place false) v
  closes place v =
      subst (λ text. Ends (closed place v) text v) (append-nil (text_between columns place false))
      (then_ends (writes (text_between columns place false) v) asks v v (text_between columns place false) []
      (writes_ends (text_between columns place false) v) (asks_ends v))

  opens : (place : ℕ) (t : Tree) (ts : List Tree) (v w x : View Reg) (text later : List ℕ) → Ends (cell_at place t v) text w
      → Ends (rest_at (place + 1) ts w) later x
      → Ends (opened place t ts v) (text_between columns place true ++ (text ++ later)) x
  opens place t ts v w x text later first second =
      then_ends (writes (text_between columns place true) v)
      (λ x. and_then (asks x) (λ y. and_then (cell_at place t y) (rest_at (place + 1) ts))) v x (text_between columns place true)
      (text ++ later) (writes_ends (text_between columns place true) v)
      (then_ends (asks v) (λ y. and_then (cell_at place t y) (rest_at (place + 1) ts)) v x [] (text ++ later) (asks_ends v)
      (then_ends (cell_at place t v) (rest_at (place + 1) ts) w x text later first second))

  -- a table that has been left writes its last text
  left_ends : (place : ℕ) (ts : List Tree) (w : View Reg) → leaves w.interrupt ≡ true
      → Ends (rest_at place ts w) (text_between columns place false) (cleared w)
  left_ends place [] w is =
      then_ends (asks w) (λ x. closed place (cleared x)) w (cleared w) [] (text_between columns place false) (asks_ends w)
      (closes place (cleared w))
  left_ends place (t ∷ ts) w is =
      subst (λ (b : Bool). Ends (and_then (asks w) (λ x. cond b (closed place (cleared w)) (opened place t ts (cleared w))))
      (text_between columns place false) (cleared w)) (sym is)
      (then_ends (asks w) (λ x. closed place (cleared w)) w (cleared w) [] (text_between columns place false) (asks_ends w)
      (closes place (cleared w)))

  -- the next item after a body that has not left the table
  next_ends : (place : ℕ) (t : Tree) (ts : List Tree) (u v w x : View Reg) (text later : List ℕ) → v ≡ cleared u
      → leaves u.interrupt ≡ false → Ends (cell_at place t v) text w → Ends (rest_at (place + 1) ts w) later x
      → Ends (rest_at place (t ∷ ts) u) (text_between columns place true ++ (text ++ later)) x
  next_ends place t ts u v w x text later is stays first second =
      let all = text_between columns place true ++ (text ++ later) in
      subst (λ (b : Bool). Ends (and_then (asks u) (λ y. cond b (closed place (cleared u)) (opened place t ts (cleared u)))) all x)
      (sym stays)
      (then_ends (asks u) (λ y. opened place t ts (cleared u)) u x [] all (asks_ends u)
      (opens place t ts (cleared u) w x text later (subst (λ z. Ends (cell_at place t z) text w) is first) second))

  after_ends : (place : ℕ) (ts : List Tree) (v w : View Reg) (texts : List (List ℕ)) → Bodies cell_at place ts v texts w
      → (u : View Reg) → v ≡ cleared u → leaves u.interrupt ≡ false → Ends (rest_at place ts u) (around columns place texts) w
  after_ends place ts v w texts (no_more p x) u is stays =
      subst (λ z. Ends (rest_at p [] u) (text_between columns p false) z) (sym is)
      (then_ends (asks u) (λ y. closed p (cleared y)) u (cleared u) [] (text_between columns p false) (asks_ends u) (closes p (cleared u)))
  after_ends place ts v w texts (leaves_off p t rest x y text ends leave) u is stays =
      next_ends p t rest u x y (cleared y) text (text_between columns (p + 1) false) is stays ends (left_ends (p + 1) rest y leave)
  after_ends place ts v w texts (goes_on p t rest x y z text later ends stay bodies) u is stays =
      next_ends p t rest u x y z text (around columns (p + 1) later) is stays ends
      (after_ends (p + 1) rest (cleared y) z later bodies y refl stay)

  -- the items from the first one on
  abbrev begun : ℕ → List Tree → Action Reg
  begun place [] v = and_then (asks v) (closed place)
  begun place (t ∷ ts) v = and_then (asks v) (opened place t ts)

  first_ends : (place : ℕ) (t : Tree) (ts : List Tree) (v w x : View Reg) (text later : List ℕ) → Ends (cell_at place t v) text w
      → Ends (rest_at (place + 1) ts w) later x
      → Ends (begun place (t ∷ ts) v) (text_between columns place true ++ (text ++ later)) x
  first_ends place t ts v w x text later first second =
      then_ends (asks v) (opened place t ts) v x [] (text_between columns place true ++ (text ++ later)) (asks_ends v)
      (opens place t ts v w x text later first second)

  pub begun_ends : (place : ℕ) (ts : List Tree) (v w : View Reg) (texts : List (List ℕ)) → Bodies cell_at place ts v texts w
      → Ends (begun place ts v) (around columns place texts) w
  begun_ends place ts v w texts (no_more p x) =
      then_ends (asks x) (closed p) x x [] (text_between columns p false) (asks_ends x) (closes p x)
  begun_ends place ts v w texts (leaves_off p t rest x y text ends leave) =
      first_ends p t rest x y (cleared y) text (text_between columns (p + 1) false) ends (left_ends (p + 1) rest y leave)
  begun_ends place ts v w texts (goes_on p t rest x y z text later ends stay bodies) =
      first_ends p t rest x y z text (around columns (p + 1) later) ends (after_ends (p + 1) rest (cleared y) z later bodies y refl stay)

  run_is : (ts : List Tree) (v : View Reg) → begun 0 ts v ≡ table_run fresh name size columns body ts v
  run_is [] v = refl
  run_is (t ∷ ts) v = refl

module _ {Reg F : Type 0} (held : MarksIn Reg) (fresh : Reg) (m : FilterMeaning F) where
  pub table_writes : TableWrites held fresh m
  table_writes finds depth l ps v w ts columns rows goes are bodies =
      let body = part_run (standard held fresh m finds) depth ps 0 in
      subst (λ (r : Run Reg). Ends r (rows_text 1 rows) w)
      (sym (table_runs held fresh m finds depth l ps v ts columns goes ∙ sym (run_is fresh l.name (length ts) columns body ts v)))
      (subst (λ text. Ends (begun fresh l.name (length ts) columns body 0 ts v) text w) (rows_around columns rows are)
      (begun_ends fresh l.name (length ts) columns body 0 ts v w (in_rows rows) bodies))
