-- The whole run of a `tablerow`, and what it writes.
use Rattle.std.specs.Prelude.{◌≡◌, ℕ, ℤ, pos, List, length, true, false, Option, unwrap_or, Ok}
use Rattle.liquid_value.specs.meaning.Tree.{Tree}
use Rattle.liquid_runtime.specs.meaning.View.{View}
use Rattle.liquid_plugins.specs.meaning.Chain.{FilterMeaning}
use Rattle.liquid_plugins.specs.meaning.Nodes.{Parts}
use Rattle.liquid_template.specs.meaning.Partials.{Found}
use Rattle.liquid_template.specs.meaning.Runs.{block_run, part_run}
use Rattle.liquid_std.specs.declared.iteration.loops.LoopShape.{LoopShape}
use Rattle.liquid_std.specs.declared.iteration.scalars.OverScalar.TheVariants.{Refused}
use Rattle.liquid_std.specs.meaning.iteration.Loops.{picked_items}
use Rattle.liquid_std.specs.meaning.iteration.Options.{option_number}
use Rattle.liquid_std.specs.meaning.iteration.Picked.{natural}
use Rattle.liquid_std.specs.meaning.iteration.Tables.{is_over_nil}
use Rattle.liquid_std.specs.meaning.marks.Held.{MarksIn}
use Rattle.liquid_std.specs.declared.blocks.StdBlockShape.{StdBlockShape}
use Rattle.liquid_std.specs.declared.blocks.StdBlockShape.TheVariants.{Tablerow}
use Rattle.liquid_std.specs.declared.tags.StdTagShape.{StdTagShape}
use Rattle.liquid_std.specs.meaning.Standard.{standard}
use Rattle.liquid_laws.specs.laws.loops.Bodies.{Bodies}
use Rattle.liquid_laws.specs.meaning.loops.Ends.{Ends}
use Rattle.liquid_laws.specs.laws.loops.ForRuns.{part_alone}
use Rattle.liquid_laws.specs.meaning.loops.Rows.{AreRows, in_rows, rows_text}
use Rattle.liquid_laws.specs.laws.loops.TableRuns.{cell_run, table_run}

-- any cells stand in rows of any number of columns
abbrev pub RowsExist : Type 0 → Type 0
RowsExist A = (columns : ℕ) (cells : List A) → (rows : List (List A)) × AreRows columns rows × (in_rows rows ≡ cells)

-- a table goes over these items, in this number of columns, which is 0 if it has one row
abbrev pub GoesOver : {Reg : Type 0} → View Reg → LoopShape → List Tree → ℕ → Type 0
GoesOver v l ts columns =
    (is_over_nil v l.series ≡ Ok false) × (picked_items Refused v l ≡ Ok ts)
    × ((cols : Option ℤ) × (option_number v l.options.cols ≡ Ok cols) × (natural (unwrap_or cols (pos 0)) ≡ columns))

module _ {Reg F : Type 0} (held : MarksIn Reg) (fresh : Reg) (m : FilterMeaning F) where
  -- the run of a table
  abbrev pub TableRuns : Type 0
  TableRuns =
      (finds : Option (Found F (StdTagShape F) StdBlockShape)) (depth : ℕ) (l : LoopShape) (ps : Parts F (StdTagShape F) StdBlockShape)
      (v : View Reg) (ts : List Tree) (columns : ℕ) → GoesOver v l ts columns
      → block_run (standard held fresh m finds) depth (Tablerow l) ps v
      ≡ table_run fresh l.name (length ts) columns (part_run (standard held fresh m finds) depth ps 0) ts v

  -- over nil there is no table, but the second part, which no `tablerow` of a template has
  abbrev pub NilRuns : Type 0
  NilRuns =
      (finds : Option (Found F (StdTagShape F) StdBlockShape)) (depth : ℕ) (l : LoopShape) (ps : Parts F (StdTagShape F) StdBlockShape)
      (v : View Reg) → is_over_nil v l.series ≡ Ok true
      → block_run (standard held fresh m finds) depth (Tablerow l) ps v ≡ part_alone (part_run (standard held fresh m finds) depth ps 1) v

  -- it writes its rows, whose cells have the texts of the bodies that run
  abbrev pub TableWrites : Type 0
  TableWrites =
      (finds : Option (Found F (StdTagShape F) StdBlockShape)) (depth : ℕ) (l : LoopShape) (ps : Parts F (StdTagShape F) StdBlockShape)
      (v w : View Reg) (ts : List Tree) (columns : ℕ) (rows : List (List (List ℕ))) → GoesOver v l ts columns → AreRows columns rows
      → Bodies (cell_run fresh l.name (length ts) columns (part_run (standard held fresh m finds) depth ps 0)) 0 ts v (in_rows rows) w
      → Ends (block_run (standard held fresh m finds) depth (Tablerow l) ps v) (rows_text 1 rows) w
