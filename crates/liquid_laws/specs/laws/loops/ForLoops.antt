-- What a `for` goes over, and its whole run.
use Rattle.std.specs.Prelude.{◌≡◌, ◌↔◌, ℕ, ℤ, pos, List, [], ◌∷◌, length, Option, unwrap_or, Ok}
use Rattle.std.specs.List.{concat}
use Rattle.liquid_value.specs.meaning.Tree.{Tree}
use Rattle.liquid_runtime.specs.meaning.View.{View}
use Rattle.liquid_plugins.specs.meaning.Chain.{FilterMeaning}
use Rattle.liquid_plugins.specs.meaning.Nodes.{Parts}
use Rattle.liquid_template.specs.meaning.Partials.{Found}
use Rattle.liquid_template.specs.meaning.Runs.{block_run, part_run}
use Rattle.liquid_tags.specs.laws.LoopRuns.{item_run}
use Rattle.liquid_std.specs.declared.iteration.loops.LoopShape.{LoopShape}
use Rattle.liquid_std.specs.declared.iteration.scalars.OverScalar.{OverScalar}
use Rattle.liquid_std.specs.meaning.iteration.Loops.{picked_items}
use Rattle.liquid_std.specs.meaning.iteration.Options.{option_number}
use Rattle.liquid_std.specs.meaning.iteration.Picked.{in_order}
use Rattle.liquid_std.specs.meaning.iteration.Scalars.{items_over}
use Rattle.liquid_std.specs.meaning.marks.Held.{MarksIn}
use Rattle.liquid_std.specs.declared.blocks.StdBlockShape.{StdBlockShape}
use Rattle.liquid_std.specs.declared.blocks.StdBlockShape.TheVariants.{For}
use Rattle.liquid_std.specs.declared.blocks.StdProgressShape.TheVariants.{Once}
use Rattle.liquid_std.specs.declared.tags.StdTagShape.{StdTagShape}
use Rattle.liquid_std.specs.meaning.Blocks.{begins_as}
use Rattle.liquid_std.specs.meaning.Standard.{standard}
use Rattle.liquid_laws.specs.laws.loops.Bodies.{Bodies}
use Rattle.liquid_laws.specs.meaning.loops.Chosen.{chosen}
use Rattle.liquid_laws.specs.meaning.loops.Ends.{Ends}
use Rattle.liquid_laws.specs.laws.loops.ForRuns.{for_run}

module _ (Reg : Type 0) where
  -- a loop goes over the chosen items of its series, reversed last
  abbrev pub GoesOverChosen : Type 0
  GoesOverChosen =
      (over : OverScalar) (v : View Reg) (l : LoopShape) (ts : List Tree) (offset limit : Option ℤ) → items_over over v l.series ≡ Ok ts
      → option_number v l.options.offset ≡ Ok offset → option_number v l.options.limit ≡ Ok limit
      → picked_items over v l ≡ Ok (in_order l.options.is_reversed (chosen (unwrap_or offset (pos 0)) limit ts))

  -- a `for` takes the part after `else` exactly if it goes over no item
  abbrev pub TakesElse : Type 0
  TakesElse =
      (over : OverScalar) (v : View Reg) (l : LoopShape) → (begins_as (For over l) v ≡ Ok (Once 1)) ↔ (picked_items over v l ≡ Ok [])

module _ {Reg F : Type 0} (held : MarksIn Reg) (fresh : Reg) (m : FilterMeaning F) where
  -- the run of a `for`, whatever it goes over
  abbrev pub ForRuns : Type 0
  ForRuns =
      (finds : Option (Found F (StdTagShape F) StdBlockShape)) (depth : ℕ) (over : OverScalar) (l : LoopShape)
      (ps : Parts F (StdTagShape F) StdBlockShape) (v : View Reg)
      → block_run (standard held fresh m finds) depth (For over l) ps v
      ≡ for_run fresh l.name (part_run (standard held fresh m finds) depth ps 0) (part_run (standard held fresh m finds) depth ps 1)
      (picked_items over v l) v

  -- it writes the texts of the bodies that run, one after another
  abbrev pub ForWrites : Type 0
  ForWrites =
      (finds : Option (Found F (StdTagShape F) StdBlockShape)) (depth : ℕ) (over : OverScalar) (l : LoopShape)
      (ps : Parts F (StdTagShape F) StdBlockShape) (t : Tree) (ts : List Tree) (v w : View Reg) (texts : List (List ℕ))
      → picked_items over v l ≡ Ok (t ∷ ts)
      → Bodies (item_run fresh l.name (length (t ∷ ts)) (part_run (standard held fresh m finds) depth ps 0)) 0 (t ∷ ts) v texts w
      → Ends (block_run (standard held fresh m finds) depth (For over l) ps v) (concat texts) w
