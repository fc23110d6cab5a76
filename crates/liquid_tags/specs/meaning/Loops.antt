-- The turns of a loop: one for each item, and one after the last.
use Rattle.std.specs.Prelude.{
  ℕ,
  zero,
  suc,
  ◌+◌,
  ◌-◌,
  ◌==◌,
  List,
  drop,
  slice_get,
  codes,
  pos,
  Bool,
  true,
  false,
  cond,
  Option,
  None,
  Some,
  Ok,
}
use Rattle.liquid_value.specs.meaning.Tree.{Tree}
use Rattle.liquid_runtime.specs.declared.registers.Interrupt.{Interrupt}
use Rattle.liquid_runtime.specs.declared.registers.Interrupt.TheVariants.{Break}
use Rattle.liquid_runtime.specs.meaning.LoopNames.{forloop, names_of_item}
use Rattle.liquid_runtime.specs.meaning.View.{View}
use Rattle.liquid_runtime.specs.meaning.Frames.{stack_frame}
use Rattle.liquid_plugins.specs.meaning.Turns.{TurnShape, body_turn, end_turn, Answered}
use Rattle.liquid_tags.specs.meaning.Items.{items_left}
use Rattle.liquid_tags.specs.declared.for_block.rounds.Rounds.{Rounds}
use Rattle.liquid_tags.specs.declared.for_block.rounds.RoundsShape.{RoundsShape}
use Rattle.liquid_plugins.specs.meaning.Turning.{answers}

-- the shape of a loop's progress
abbrev pub rounds_of : Rounds → RoundsShape
rounds_of r = record { left = items_left r.left; place = r.place; size = r.size; turns = r.turns }

-- the turn of the item at a place, or the end if there is none
abbrev pub item_turn : List ℕ → ℕ → ℕ → Option Tree → TurnShape
item_turn name place size None = end_turn
item_turn name place size (Some t) = body_turn 0 (stack_frame (names_of_item name (forloop place size) t) None) None

-- whether the body before a place has left the loop
abbrev pub is_left : ℕ → Option Interrupt → Bool
is_left (suc place) (Some Break) = true
is_left place interrupt = false

-- after each body the interrupt is cleared, but not before the first
abbrev pub rested : {Reg : Type 0} → ℕ → View Reg → View Reg
rested zero v = v
rested (suc place) v = record v { interrupt = None }

-- the next item is removed
abbrev pub following : RoundsShape → RoundsShape
following r = record r { left = drop 1 r.left; place = r.place + 1 }

-- what a turn returns: the next item's body, or the end if there is none or `Break` is set
abbrev pub loop_takes : {Reg : Type 0} → List ℕ → RoundsShape → View Reg → Answered TurnShape RoundsShape Reg
loop_takes name r v =
    answers (Ok (cond (is_left r.place v.interrupt) end_turn (item_turn name r.place r.size (slice_get r.left 0)))) (following r)
    (rested r.place v)
