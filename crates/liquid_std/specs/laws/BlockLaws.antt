-- Blocks whose turns do not depend on hidden globals.
use Rattle.std.proofs.Common.{ℕ, List, Option, None, Some, Ok, refl, sym, ap, ◌≡◌, ◌∙◌}
use Rattle.std.specs.FinMap.{empty, insert}
use Rattle.liquid_error.specs.meaning.Refusal.{ok_then}
use Rattle.liquid_runtime.proofs.MapLaws.{empty-over, insert-over}
use Rattle.liquid_runtime.specs.meaning.Frames.{no_frame}
use Rattle.liquid_runtime.specs.meaning.Maps.{Names}
use Rattle.liquid_runtime.specs.meaning.View.{View}
use Rattle.liquid_plugins.specs.meaning.Discreet.{Discreet, hiding, overlaid, HidesGlobals}
use Rattle.liquid_plugins.specs.meaning.Turning.{answers}
use Rattle.liquid_plugins.specs.meaning.Turns.{capture_turn, text_turn, end_turn}
use Rattle.liquid_plugins.proofs.Hiding.{answers_hide}
use Rattle.liquid_std.specs.laws.conditions.Hidden.{part_case_hidden, part_if_hidden, part_unless_hidden}
use Rattle.liquid_std.specs.laws.iteration.Hidden.{loop_hides, picked_hidden, table_hidden, table_hides}
use Rattle.liquid_std.specs.laws.marks.Hidden.{changes_hide}
use Rattle.liquid_std.specs.meaning.marks.Held.{MarksIn}
use Rattle.liquid_std.specs.declared.blocks.StdBlockShape.{StdBlockShape}
use Rattle.liquid_std.specs.declared.blocks.StdBlockShape.TheVariants as shape
use Rattle.liquid_std.specs.declared.blocks.StdProgressShape.{StdProgressShape}
use Rattle.liquid_std.specs.declared.blocks.StdProgressShape.TheVariants.{Once, Rounds, Table, Capturing}
use Rattle.liquid_std.specs.meaning.Blocks.{
  begins_as,
  block_nodes,
  block_starts,
  block_takes,
  in_capture,
  in_rounds,
  in_table,
  over_items,
  over_table,
  part_turn,
}
use Rattle.liquid_std.specs.meaning.Captures.{captures, text_value}

module _ {Reg : Type 0} (held : MarksIn Reg) where
  begins_hidden : (n : StdBlockShape) (g : Names) (v : View Reg) → begins_as n (hiding g v) ≡ begins_as n (hiding empty v)
  begins_hidden (shape.If equality cs) g v = ap (λ r. ok_then r (λ part. Ok (Once part))) (part_if_hidden equality g v 0 cs)
  begins_hidden (shape.Unless equality cs) g v = ap (λ r. ok_then r (λ part. Ok (Once part))) (part_unless_hidden equality g v cs)
  begins_hidden (shape.Case equality c) g v = ap (λ r. ok_then r (λ part. Ok (Once part))) (part_case_hidden equality g v c)
  begins_hidden (shape.For over l) g v = ap (λ r. ok_then r (λ ts. Ok (over_items ts))) (picked_hidden g v over l)
  begins_hidden (shape.Tablerow l) g v = ap (λ r. ok_then r (λ t. Ok (over_table t))) (table_hidden g v l)
  begins_hidden (shape.Capture name) g v = refl
  begins_hidden shape.Ifchanged g v = refl
  begins_hidden shape.Comment g v = refl
  begins_hidden (shape.Raw text) g v = refl

  captures_hide : (name : List ℕ) (caught : Option (List ℕ)) (g : Names) (v : View Reg)
      → captures name caught (hiding g v) ≡ overlaid g (captures name caught (hiding empty v))
  captures_hide name None g v = answers_hide (Ok (capture_turn 0 no_frame None)) None (λ w. w) (λ h w. refl) g v
  captures_hide name (Some bytes) g v =
      ap (λ n. answers (Ok end_turn) None (hiding n v)) (ap (λ n. insert n name (text_value bytes)) (sym (empty-over g))
      ∙ sym (insert-over empty g name (text_value bytes)))

  block_start_hides : (n : StdBlockShape) → HidesGlobals {Reg = Reg} (block_starts n)
  block_start_hides n g v =
      ap (λ r. answers r tt (hiding g v)) (begins_hidden n g v) ∙ answers_hide (begins_as n (hiding empty v)) tt (λ w. w) (λ h w. refl) g v

  block_turn_hides : (n : StdBlockShape) (p : StdProgressShape) → HidesGlobals {Reg = Reg} (block_takes held n p)
  block_turn_hides (shape.Raw text) p g v = answers_hide (Ok (text_turn text)) p (λ w. w) (λ h w. refl) g v
  block_turn_hides shape.Comment p g v = answers_hide (Ok end_turn) p (λ w. w) (λ h w. refl) g v
  block_turn_hides (shape.For over l) (Rounds r) g v = ap in_rounds (loop_hides l.name r g v)
  block_turn_hides (shape.For over l) (Once part) g v = answers_hide (Ok (part_turn (Once part))) (Once part) (λ w. w) (λ h w. refl) g v
  block_turn_hides (shape.For over l) (Capturing caught) g v =
      answers_hide (Ok (part_turn (Capturing caught))) (Capturing caught) (λ w. w) (λ h w. refl) g v
  block_turn_hides (shape.For over l) (Table t) g v = answers_hide (Ok (part_turn (Table t))) (Table t) (λ w. w) (λ h w. refl) g v
  block_turn_hides (shape.Tablerow l) (Table t) g v = ap in_table (table_hides l.name t g v)
  block_turn_hides (shape.Tablerow l) (Once part) g v = answers_hide (Ok (part_turn (Once part))) (Once part) (λ w. w) (λ h w. refl) g v
  block_turn_hides (shape.Tablerow l) (Rounds r) g v = answers_hide (Ok (part_turn (Rounds r))) (Rounds r) (λ w. w) (λ h w. refl) g v
  block_turn_hides (shape.Tablerow l) (Capturing caught) g v =
      answers_hide (Ok (part_turn (Capturing caught))) (Capturing caught) (λ w. w) (λ h w. refl) g v
  block_turn_hides (shape.Capture name) (Table t) g v = answers_hide (Ok (part_turn (Table t))) (Table t) (λ w. w) (λ h w. refl) g v
  block_turn_hides (shape.Capture name) (Capturing caught) g v = ap in_capture (captures_hide name caught g v)
  block_turn_hides (shape.Capture name) (Once part) g v = answers_hide (Ok (part_turn (Once part))) (Once part) (λ w. w) (λ h w. refl) g v
  block_turn_hides (shape.Capture name) (Rounds r) g v = answers_hide (Ok (part_turn (Rounds r))) (Rounds r) (λ w. w) (λ h w. refl) g v
  block_turn_hides shape.Ifchanged (Table t) g v = answers_hide (Ok (part_turn (Table t))) (Table t) (λ w. w) (λ h w. refl) g v
  block_turn_hides shape.Ifchanged (Capturing caught) g v = ap in_capture (changes_hide held g v caught)
  block_turn_hides shape.Ifchanged (Once part) g v = answers_hide (Ok (part_turn (Once part))) (Once part) (λ w. w) (λ h w. refl) g v
  block_turn_hides shape.Ifchanged (Rounds r) g v = answers_hide (Ok (part_turn (Rounds r))) (Rounds r) (λ w. w) (λ h w. refl) g v
  block_turn_hides (shape.If equality cs) p g v = answers_hide (Ok (part_turn p)) p (λ w. w) (λ h w. refl) g v
  block_turn_hides (shape.Unless equality cs) p g v = answers_hide (Ok (part_turn p)) p (λ w. w) (λ h w. refl) g v
  block_turn_hides (shape.Case equality c) p g v = answers_hide (Ok (part_turn p)) p (λ w. w) (λ h w. refl) g v

  pub blocks_hide : Discreet {Reg = Reg} (block_nodes held)
  blocks_hide = record { start = block_start_hides; turn = block_turn_hides }
