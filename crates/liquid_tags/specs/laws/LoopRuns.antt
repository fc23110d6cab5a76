-- The run of a loop over the items of its series.
use Rattle.std.specs.Prelude.{◌≡◌, ℕ, ◌+◌, List, [], ◌∷◌, length, Bool, true, false, cond, Option, None, Some, Ok}
use Rattle.liquid_value.specs.meaning.Tree.{Tree}
use Rattle.liquid_runtime.specs.declared.registers.Interrupt.{Interrupt}
use Rattle.liquid_runtime.specs.declared.registers.Interrupt.TheVariants.{Break}
use Rattle.liquid_runtime.specs.meaning.Frames.{stack_frame}
use Rattle.liquid_runtime.specs.meaning.LoopNames.{forloop, names_of_item}
use Rattle.liquid_runtime.specs.meaning.View.{View}
use Rattle.liquid_plugins.specs.meaning.Chain.{FilterMeaning}
use Rattle.liquid_plugins.specs.meaning.Nodes.{Parts}
use Rattle.liquid_template.specs.meaning.Actions.{done, asks, and_then, under}
use Rattle.liquid_template.specs.meaning.Partials.{Found}
use Rattle.liquid_template.specs.meaning.Run.{Action}
use Rattle.liquid_template.specs.meaning.Runs.{block_run, part_run}
use Rattle.liquid_tags.specs.declared.blocks.BlockShape.{BlockShape}
use Rattle.liquid_tags.specs.declared.blocks.BlockShape.TheVariants.{For}
use Rattle.liquid_tags.specs.declared.for_block.series.SeriesShape.{SeriesShape}
use Rattle.liquid_tags.specs.declared.tags.TagShape.{TagShape}
use Rattle.liquid_tags.specs.meaning.Library.{library}
use Rattle.liquid_tags.specs.meaning.Series.{items_of}

-- the view without an interrupt
abbrev pub cleared : {Reg : Type 0} → View Reg → View Reg
cleared v = record v { interrupt = None }

-- whether an interrupt leaves the loop
abbrev pub leaves : Option Interrupt → Bool
leaves (Some Break) = true
leaves other = false

module _ {Reg : Type 0} (fresh : Reg) (name : List ℕ) (size : ℕ) (body : Action Reg) where
  -- the body of the item at a place, under the item's frame
  abbrev pub item_run : ℕ → Tree → Action Reg
  item_run place t = under fresh (stack_frame (names_of_item name (forloop place size) t) None) None body

  -- what comes after a body: a checkpoint, and without the interrupt that the body has set the body of the next item,
  -- unless the interrupt was `Break` or there is no further item
  abbrev pub after_body : ℕ → List Tree → Action Reg
  after_body place [] v = and_then (asks v) (λ w. done (cleared w))
  after_body place (t ∷ ts) v =
      and_then (asks v) (λ w. cond (leaves w.interrupt) (done (cleared w))
      (and_then (item_run place t (cleared w)) (after_body (place + 1) ts)))

  -- a first item, after its checkpoint, and those after it
  abbrev pub loop_run : Tree → List Tree → Action Reg
  loop_run t ts v = and_then (asks v) (λ w. and_then (item_run 0 t w) (after_body 1 ts))

module _ {Reg F : Type 0} (fresh : Reg) (m : FilterMeaning F) where
  -- a loop over at least one item renders its first part for each item, as far as the first `break`
  abbrev pub LoopRuns : Type 0
  LoopRuns =
      (finds : Option (Found F (TagShape F) BlockShape)) (depth : ℕ) (name : List ℕ) (series : SeriesShape)
      (ps : Parts F (TagShape F) BlockShape)
      (t : Tree) (ts : List Tree) (v : View Reg) → items_of v series ≡ Ok (t ∷ ts) →
      block_run (library fresh m finds) depth (For name series) ps v ≡ loop_run fresh name (length (t ∷ ts))
      (part_run (library fresh m finds) depth ps 0) t ts v
