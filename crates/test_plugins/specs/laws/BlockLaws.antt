-- Blocks whose turns do not depend on hidden globals.
use Rattle.std.proofs.Common.{◌≡◌, None, Ok, refl, ap, ◌∙◌}
use Rattle.std.specs.FinMap.{empty}
use Rattle.liquid_error.specs.meaning.Refusal.{ok_then}
use Rattle.liquid_runtime.specs.meaning.Maps.{Names}
use Rattle.liquid_runtime.specs.meaning.View.{View}
use Rattle.liquid_plugins.specs.meaning.Turns.{body_turn}
use Rattle.liquid_plugins.specs.meaning.Discreet.{Discreet, hiding, HidesGlobals}
use Rattle.test_plugins.specs.declared.blocks.BlockShape.{BlockShape}
use Rattle.test_plugins.specs.declared.blocks.BlockShape.TheVariants as shape
use Rattle.test_plugins.specs.declared.blocks.Stage.{Stage}
use Rattle.test_plugins.specs.declared.blocks.Stage.TheVariants.{First, Second, Third, Over}
use Rattle.liquid_plugins.specs.meaning.Turning.{answers, begins_with}
use Rattle.liquid_plugins.proofs.Hiding.{evaluate_hidden}
use Rattle.test_plugins.specs.laws.TagLaws.{unchanged_hides}
use Rattle.test_plugins.specs.meaning.Blocks.{block_answers, block_nodes, block_takes, bound, next_stage}

module _ {Reg : Type 0} where
  -- a turn returns the same, whatever is hidden
  same_answer : (n : BlockShape) (stage : Stage) (g : Names) (v : View Reg)
      → block_answers n stage (hiding g v) ≡ block_answers n stage (hiding empty v)
  same_answer shape.Box stage g v = refl
  same_answer shape.Sbox stage g v = refl
  same_answer shape.Swap stage g v = refl
  same_answer (shape.Raw slice) stage g v = refl
  same_answer (shape.With name e) First g v =
      ap (λ r. ok_then (bound name r) (λ frame. Ok (body_turn 0 frame None))) (evaluate_hidden g v e)
  same_answer (shape.With name e) Second g v = refl
  same_answer (shape.With name e) Third g v = refl
  same_answer (shape.With name e) Over g v = refl
  same_answer shape.Glob stage g v = refl

  block_start_hides : (n : BlockShape) → HidesGlobals {Reg = Reg} (begins_with First)
  block_start_hides n g v = unchanged_hides (Ok First) tt g v

  block_turn_hides : (n : BlockShape) (stage : Stage) → HidesGlobals {Reg = Reg} (block_takes n stage)
  block_turn_hides n stage g v =
      ap (λ answer. answers answer (next_stage stage) (hiding g v)) (same_answer n stage g v)
      ∙ unchanged_hides (block_answers n stage (hiding empty v)) (next_stage stage) g v

  pub blocks_hide : Discreet {Reg = Reg} block_nodes
  blocks_hide = record { start = block_start_hides; turn = block_turn_hides }
