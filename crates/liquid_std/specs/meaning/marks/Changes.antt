-- The block `ifchanged`: a part that is written unless its text is that of the last one.
use Rattle.std.specs.Prelude.{ℕ, List, Bool, true, false, Option, None, Some, Ok}
use Rattle.liquid_runtime.specs.meaning.Frames.{no_frame}
use Rattle.liquid_runtime.specs.meaning.View.{View}
use Rattle.liquid_plugins.specs.meaning.Turning.{answers}
use Rattle.liquid_plugins.specs.meaning.Turns.{TurnShape, capture_turn, end_turn, text_turn, Answered}
use Rattle.liquid_std.specs.meaning.marks.Held.{MarksIn, marked, marks_in}
use Rattle.liquid_std.specs.meaning.marks.Marks.{is_last, with_last}

module _ {Reg : Type 0} (held : MarksIn Reg) where
  -- the same text again is not written; another is, and is the last one then
  abbrev pub unless_last : List ℕ → View Reg → Bool → Answered TurnShape (Option (List ℕ)) Reg
  unless_last text v true = answers (Ok end_turn) None v
  unless_last text v false = answers (Ok (text_turn text)) None (marked held (with_last text (marks_in held v)) v)

  -- the part is captured, without a frame; after that its text is compared with that of the last `ifchanged`, of any place
  abbrev pub changes : Option (List ℕ) → View Reg → Answered TurnShape (Option (List ℕ)) Reg
  changes None v = answers (Ok (capture_turn 0 no_frame None)) None v
  changes (Some text) v = unless_last text v (is_last text (marks_in held v))
