-- Blocks whose turns do not depend on hidden globals.
use Rattle.std.proofs.Common.{◌≡◌, ℕ, zero, suc, ◌+◌, List, [], ◌∷◌, cond, None, Ok, slice_get, refl, ap, ◌∙◌}
use Rattle.std.specs.FinMap.{empty}
use Rattle.liquid_error.specs.meaning.Refusal.{ok_then}
use Rattle.liquid_runtime.specs.meaning.Maps.{Names}
use Rattle.liquid_runtime.specs.meaning.View.{View}
use Rattle.liquid_runtime.specs.meaning.Frames.{no_frame}
use Rattle.liquid_plugins.specs.meaning.Evaluation.{evaluate}
use Rattle.liquid_plugins.specs.meaning.Turns.{text_turn, body_turn, end_turn}
use Rattle.liquid_plugins.specs.meaning.Discreet.{Discreet, hiding, overlaid, HidesGlobals}
use Rattle.liquid_tags.specs.declared.if_block.condition.ConditionShape.{ConditionShape}
use Rattle.liquid_tags.specs.declared.if_block.condition.ConditionShape.TheVariants.{Holds, Compares}
use Rattle.liquid_tags.specs.declared.for_block.series.SeriesShape.{SeriesShape}
use Rattle.liquid_tags.specs.declared.for_block.series.SeriesShape.TheVariants.{Of, Between}
use Rattle.liquid_tags.specs.declared.for_block.rounds.RoundsShape.{RoundsShape}
use Rattle.liquid_tags.specs.declared.blocks.BlockShape.{BlockShape}
use Rattle.liquid_tags.specs.declared.blocks.BlockShape.TheVariants as shape
use Rattle.liquid_tags.specs.declared.blocks.ProgressShape.{ProgressShape}
use Rattle.liquid_tags.specs.declared.blocks.ProgressShape.TheVariants.{Once, Loop}
use Rattle.liquid_tags.specs.meaning.Blocks.{begins_as, block_nodes, block_starts, block_takes, in_loop, over_items}
use Rattle.liquid_tags.specs.meaning.Conditions.{chosen, compares, holds, is_truthy}
use Rattle.liquid_plugins.proofs.Hiding.{answers_hide, evaluate_hidden, try_hidden}
use Rattle.liquid_tags.specs.meaning.Loops.{following, is_left, item_turn, loop_takes, rested}
use Rattle.liquid_tags.specs.meaning.Series.{items_between, items_in, items_of, whole_number}
use Rattle.liquid_plugins.specs.meaning.Turning.{answers}

module _ {Reg : Type 0} where
  holds_hidden : (c : ConditionShape) (g : Names) (v : View Reg) → holds (hiding g v) c ≡ holds (hiding empty v) c
  holds_hidden (Holds e) g v = ap (λ t. Ok (is_truthy t)) (try_hidden g v e)
  holds_hidden (Compares l op r) g v =
      ap (λ x. ok_then (evaluate (hiding g v) l) (λ a. ok_then x (λ b. Ok (compares op a b)))) (evaluate_hidden g v r)
      ∙ ap (λ x. ok_then x (λ a. ok_then (evaluate (hiding empty v) r) (λ b. Ok (compares op a b)))) (evaluate_hidden g v l)

  chosen_hidden : (place : ℕ) (cs : List ConditionShape) (g : Names) (v : View Reg)
      → chosen (hiding g v) place cs ≡ chosen (hiding empty v) place cs
  chosen_hidden place [] g v = refl
  chosen_hidden place (c ∷ cs) g v =
      ap (λ x. ok_then (holds (hiding g v) c) (λ it_holds. cond it_holds (Ok place) x)) (chosen_hidden (place + 1) cs g v)
      ∙ ap (λ x. ok_then x (λ it_holds. cond it_holds (Ok place) (chosen (hiding empty v) (place + 1) cs))) (holds_hidden c g v)

  items_hidden : (s : SeriesShape) (g : Names) (v : View Reg) → items_of (hiding g v) s ≡ items_of (hiding empty v) s
  items_hidden (Of e) g v = ap (λ x. ok_then x items_in) (evaluate_hidden g v e)
  items_hidden (Between from to) g v =
      ap (λ x. ok_then (evaluate (hiding g v) from) (λ a. ok_then (whole_number a)
      (λ m. ok_then x (λ b. ok_then (whole_number b) (λ n. items_between m n))))) (evaluate_hidden g v to)
      ∙ ap (λ x. ok_then x (λ a. ok_then (whole_number a) (λ m. ok_then (evaluate (hiding empty v) to)
      (λ b. ok_then (whole_number b) (λ n. items_between m n))))) (evaluate_hidden g v from)

  begins_hidden : (n : BlockShape) (g : Names) (v : View Reg) → begins_as n (hiding g v) ≡ begins_as n (hiding empty v)
  begins_hidden (shape.If cs) g v = ap (λ r. ok_then r (λ part. Ok (Once part))) (chosen_hidden 0 cs g v)
  begins_hidden (shape.For name s) g v = ap (λ r. ok_then r (λ ts. Ok (over_items ts))) (items_hidden s g v)
  begins_hidden (shape.Raw slice) g v = refl

  block_start_hides : (n : BlockShape) → HidesGlobals {Reg = Reg} (block_starts n)
  block_start_hides n g v =
      ap (λ r. answers r tt (hiding g v)) (begins_hidden n g v) ∙ answers_hide (begins_as n (hiding empty v)) tt (λ w. w) (λ h w. refl) g v

  rested_keeps : (place : ℕ) (g : Names) (v : View Reg) → rested place (hiding g v) ≡ hiding g (rested place v)
  rested_keeps zero g v = refl
  rested_keeps (suc place) g v = refl

  loop_hides : (name : List ℕ) (r : RoundsShape) (g : Names) (v : View Reg)
      → loop_takes name r (hiding g v) ≡ overlaid g (loop_takes name r (hiding empty v))
  loop_hides name r g v =
      answers_hide (Ok (cond (is_left r.place v.interrupt) end_turn (item_turn name r.place r.size (slice_get r.left 0)))) (following r)
      (rested r.place) (rested_keeps r.place) g v

  block_turn_hides : (n : BlockShape) (p : ProgressShape) → HidesGlobals {Reg = Reg} (block_takes n p)
  block_turn_hides (shape.Raw slice) p g v = answers_hide (Ok (text_turn slice)) p (λ w. w) (λ h w. refl) g v
  block_turn_hides (shape.For name s) (Loop r) g v = ap in_loop (loop_hides name r g v)
  block_turn_hides (shape.For name s) (Once part) g v =
      answers_hide (Ok (body_turn part no_frame None)) (Once part) (λ w. w) (λ h w. refl) g v
  block_turn_hides (shape.If cs) (Once part) g v = answers_hide (Ok (body_turn part no_frame None)) (Once part) (λ w. w) (λ h w. refl) g v
  block_turn_hides (shape.If cs) (Loop r) g v = answers_hide (Ok end_turn) (Loop r) (λ w. w) (λ h w. refl) g v

  pub blocks_hide : Discreet {Reg = Reg} block_nodes
  blocks_hide = record { start = block_start_hides; turn = block_turn_hides }
