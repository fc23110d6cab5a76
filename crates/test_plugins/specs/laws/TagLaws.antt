-- Tags whose turns do not depend on hidden globals.
use Rattle.std.proofs.Common.{◌≡◌, ℕ, List, None, Some, Result, Ok, Err, refl, sym, ap, ◌∙◌}
use Rattle.std.specs.FinMap.{empty, insert}
use Rattle.liquid_error.specs.meaning.Refusal.{Refusal}
use Rattle.liquid_value.specs.meaning.Tree.{Tree}
use Rattle.liquid_runtime.specs.meaning.Maps.{Names}
use Rattle.liquid_runtime.proofs.MapLaws.{empty-over, insert-over}
use Rattle.liquid_runtime.specs.meaning.View.{View}
use Rattle.liquid_runtime.specs.meaning.Written.{written_of}
use Rattle.liquid_runtime.specs.meaning.Frames.{no_frame}
use Rattle.liquid_plugins.specs.meaning.Evaluation.{evaluate}
use Rattle.liquid_plugins.specs.meaning.Turns.{partial_turn, end_turn}
use Rattle.liquid_plugins.specs.meaning.Discreet.{Discreet, hiding, overlaid, HidesGlobals}
use Rattle.liquid_plugins.proofs.Hiding.{evaluate_hidden, answers_hide}
use Rattle.test_plugins.specs.declared.tags.TagShape.{TagShape}
use Rattle.test_plugins.specs.declared.tags.TagShape.TheVariants as shape
use Rattle.liquid_plugins.specs.meaning.Turning.{answers, begins_with, turned}
use Rattle.test_plugins.specs.meaning.Tags.{assigned, tag_nodes, tag_takes}

module _ {Reg : Type 0} where
  -- a result that writes nothing hides globals
  pub unchanged_hides : {A P : Type 0} (answer : Result A Refusal) (p : P) (g : Names) (v : View Reg)
      → answers answer p (hiding g v) ≡ overlaid g (answers answer p (hiding empty v))
  unchanged_hides answer p g v = answers_hide answer p (λ w. w) (λ m w. refl) g v

  set_hides : (name : List ℕ) (r : Result Tree Refusal) (p : ℕ) (g : Names) (v : View Reg)
      → turned (λ _. end_turn) p (assigned name r (hiding g v)) ≡ overlaid g (turned (λ _. end_turn) p (assigned name r (hiding empty v)))
  set_hides name (Ok t) p g v =
      ap (λ m. record (turned (λ _. end_turn) p (assigned name (Ok t) (hiding g v)))
      { written = record (written_of (hiding g v)) { globals = Some m } })
      (ap (λ m. insert m name t) (sym (empty-over g)) ∙ sym (insert-over empty g name t))
  set_hides name (Err refusal) p g v = unchanged_hides (Err refusal) p g v

  tag_start_hides : (n : TagShape) → HidesGlobals {A = ℕ} {P = Unit {0}} {Reg = Reg} (begins_with 1)
  tag_start_hides n g v = unchanged_hides (Ok 1) tt g v

  tag_turn_hides : (n : TagShape) (p : ℕ) → HidesGlobals {Reg = Reg} (tag_takes n p)
  tag_turn_hides (shape.Set name e) p g v =
      ap (λ r. turned (λ _. end_turn) p (assigned name r (hiding g v))) (evaluate_hidden g v e)
      ∙ set_hides name (evaluate (hiding empty v) e) p g v
  tag_turn_hides (shape.Inc name) p g v = unchanged_hides (Ok (partial_turn name no_frame None)) p g v
  tag_turn_hides shape.Brk p g v =
      ap (λ m. record (tag_takes shape.Brk p (hiding g v)) {
        written = record (tag_takes shape.Brk p (hiding g v)).written
            { globals = Some m };
      }) (sym (empty-over g))

  pub tags_hide : Discreet {Reg = Reg} tag_nodes
  tags_hide = record { start = tag_start_hides; turn = tag_turn_hides }
