-- The whole run of a `tablerow`.
use Rattle.std.specs.Prelude.{ℕ, ◌+◌, List, [], ◌∷◌, true, false, cond, None}
use Rattle.liquid_value.specs.meaning.Tree.{Tree}
use Rattle.liquid_runtime.specs.meaning.Frames.{stack_frame}
use Rattle.liquid_template.specs.meaning.Actions.{asks, and_then, writes, under}
use Rattle.liquid_template.specs.meaning.Run.{Action}
use Rattle.liquid_tags.specs.laws.LoopRuns.{cleared, leaves}
use Rattle.liquid_std.specs.meaning.iteration.Cells.{tablerowloop, text_between}
use Rattle.liquid_std.specs.meaning.iteration.Tables.{names_of_cell}

module _ {Reg : Type 0} (fresh : Reg) (name : List ℕ) (size columns : ℕ) (body : Action Reg) where
  -- the body of the item at a place, under the frame of its cell
  abbrev pub cell_run : ℕ → Tree → Action Reg
  cell_run place t = under fresh (stack_frame (names_of_cell name (tablerowloop columns place size) t) None) None body

  -- the last text, and the checkpoint of the end
  abbrev pub closing : ℕ → Action Reg
  closing place v = and_then (writes (text_between columns place false) v) asks

  -- after a body: a checkpoint, and without the interrupt that the body has set the text before the next cell and the next
  -- body, or the last text if the interrupt was `Break` or there is no further item
  abbrev pub after_cell : ℕ → List Tree → Action Reg
  after_cell place [] v = and_then (asks v) (λ w. closing place (cleared w))
  after_cell place (t ∷ ts) v =
      and_then (asks v) (λ w. cond (leaves w.interrupt) (closing place (cleared w))
      (and_then (writes (text_between columns place true) (cleared w)) (λ x. and_then (asks x) (λ y.
      and_then (cell_run place t y) (after_cell (place + 1) ts)))))

  -- a table: the text before the first cell and its body, and what comes after it
  abbrev pub table_run : List Tree → Action Reg
  table_run [] v = and_then (asks v) (closing 0)
  table_run (t ∷ ts) v =
      and_then (asks v) (λ w. and_then (writes (text_between columns 0 true) w) (λ x. and_then (asks x) (λ y.
      and_then (cell_run 0 t y) (after_cell 1 ts))))
