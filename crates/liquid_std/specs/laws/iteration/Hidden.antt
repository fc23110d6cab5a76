-- What loops and tables go over, and their turns, do not depend on hidden globals.
use Rattle.std.proofs.Common.{◌≡◌, ℕ, zero, suc, List, Bool, cond, pos, ℤ, Option, None, Some, Result, Ok, Err, refl, ap, ◌∙◌}
use Rattle.std.specs.Prelude.{unwrap_or, slice_get}
use Rattle.std.specs.FinMap.{empty}
use Rattle.liquid_error.specs.meaning.Refusal.{Refusal, ok_then}
use Rattle.liquid_value.specs.meaning.Tree.{Tree}
use Rattle.liquid_runtime.specs.meaning.Maps.{Names}
use Rattle.liquid_runtime.specs.meaning.View.{View}
use Rattle.liquid_plugins.specs.meaning.Discreet.{hiding, overlaid}
use Rattle.liquid_plugins.specs.meaning.Evaluation.{evaluate}
use Rattle.liquid_plugins.specs.meaning.Expression.{ExpressionShape}
use Rattle.liquid_plugins.specs.meaning.Turns.{end_turn, text_turn}
use Rattle.liquid_plugins.proofs.Hiding.{answers_hide, evaluate_hidden}
use Rattle.liquid_tags.specs.declared.for_block.rounds.RoundsShape.{RoundsShape}
use Rattle.liquid_tags.specs.declared.for_block.series.SeriesShape.{SeriesShape}
use Rattle.liquid_tags.specs.declared.for_block.series.SeriesShape.TheVariants.{Of, Between}
use Rattle.liquid_tags.specs.meaning.Loops.{following, is_left, item_turn, loop_takes, rested}
use Rattle.liquid_tags.specs.meaning.Series.{items_between, items_in, items_of, whole_number}
use Rattle.liquid_std.specs.declared.iteration.loops.LoopShape.{LoopShape}
use Rattle.liquid_std.specs.meaning.iteration.Loops.{picked_items}
use Rattle.liquid_std.specs.meaning.iteration.Options.{number_given, option_number}
use Rattle.liquid_std.specs.meaning.iteration.Picked.{natural, picked}
use Rattle.liquid_std.specs.meaning.iteration.Scalars.{items_over, items_within}
use Rattle.liquid_std.specs.declared.iteration.scalars.OverScalar.{OverScalar}
use Rattle.liquid_std.specs.declared.iteration.scalars.OverScalar.TheVariants.{Refused, TextItself}
use Rattle.liquid_std.specs.declared.iteration.tables.Stage.{Stage}
use Rattle.liquid_std.specs.declared.iteration.tables.Stage.TheVariants.{Text, Body, End}
use Rattle.liquid_std.specs.declared.iteration.tables.TableShape.{TableShape}
use Rattle.liquid_std.specs.meaning.iteration.Tables.{
  after_body,
  after_text,
  body_of,
  is_nil,
  is_over_nil,
  stage_takes,
  table,
  table_over,
  table_takes,
  text_at,
}

then_same : {A B : Type 0} (r : Result A Refusal) (f g : A → Result B Refusal) → ((x : A) → f x ≡ g x) → ok_then r f ≡ ok_then r g
then_same (Ok x) f g e = e x
then_same (Err refusal) f g e = refl

module _ {Reg : Type 0} (g : Names) (v : View Reg) where
  pub series_hidden : (s : SeriesShape) → items_of (hiding g v) s ≡ items_of (hiding empty v) s
  series_hidden (Of e) = ap (λ x. ok_then x items_in) (evaluate_hidden g v e)
  series_hidden (Between from to) =
      ap (λ x. ok_then (evaluate (hiding g v) from) (λ a. ok_then (whole_number a)
      (λ m. ok_then x (λ b. ok_then (whole_number b) (λ n. items_between m n))))) (evaluate_hidden g v to)
      ∙ ap (λ x. ok_then x (λ a. ok_then (whole_number a) (λ m. ok_then (evaluate (hiding empty v) to)
      (λ b. ok_then (whole_number b) (λ n. items_between m n))))) (evaluate_hidden g v from)

  option_hidden : (e : Option ExpressionShape) → option_number (hiding g v) e ≡ option_number (hiding empty v) e
  option_hidden None = refl
  option_hidden (Some e) = ap (λ x. ok_then x number_given) (evaluate_hidden g v e)

  over_hidden : (over : OverScalar) (s : SeriesShape) → items_over over (hiding g v) s ≡ items_over over (hiding empty v) s
  over_hidden Refused s = series_hidden s
  over_hidden TextItself (Of e) = ap (λ x. ok_then x items_within) (evaluate_hidden g v e)
  over_hidden TextItself (Between from to) = series_hidden (Between from to)

  pub picked_hidden : (over : OverScalar) (l : LoopShape) → picked_items over (hiding g v) l ≡ picked_items over (hiding empty v) l
  picked_hidden over l =
      ap (λ x. ok_then (items_over over (hiding g v) l.series) (λ ts. ok_then (option_number (hiding g v) l.options.offset)
      (λ offset. ok_then x (λ limit.
      Ok (picked (unwrap_or offset (pos 0)) limit l.options.is_reversed ts))))) (option_hidden l.options.limit)
      ∙ ap (λ x. ok_then (items_over over (hiding g v) l.series) (λ ts. ok_then x
      (λ offset. ok_then (option_number (hiding empty v) l.options.limit) (λ limit.
      Ok (picked (unwrap_or offset (pos 0)) limit l.options.is_reversed ts))))) (option_hidden l.options.offset)
      ∙ ap (λ x. ok_then x (λ ts. ok_then (option_number (hiding empty v) l.options.offset)
      (λ offset. ok_then (option_number (hiding empty v) l.options.limit) (λ limit.
      Ok (picked (unwrap_or offset (pos 0)) limit l.options.is_reversed ts))))) (over_hidden over l.series)

  nil_hidden : (s : SeriesShape) → is_over_nil (hiding g v) s ≡ is_over_nil (hiding empty v) s
  nil_hidden (Of e) = ap (λ x. ok_then x (λ t. Ok (is_nil t))) (evaluate_hidden g v e)
  nil_hidden (Between from to) = refl

  abbrev tabled : Result Bool Refusal → Result (List Tree) Refusal → Result (Option ℤ) Refusal → Result (Option TableShape) Refusal
  tabled nothing items columns =
      ok_then nothing (λ n. cond n (Ok None) (ok_then items (λ ts. ok_then columns
      (λ c. Ok (Some (table ts (natural (unwrap_or c (pos 0)))))))))

  pub table_hidden : (l : LoopShape) → table_over (hiding g v) l ≡ table_over (hiding empty v) l
  table_hidden l =
      ap (tabled (is_over_nil (hiding g v) l.series) (picked_items Refused (hiding g v) l)) (option_hidden l.options.cols)
      ∙ ap (λ x. tabled (is_over_nil (hiding g v) l.series) x (option_number (hiding empty v) l.options.cols)) (picked_hidden Refused l)
      ∙ ap (λ x. tabled x (picked_items Refused (hiding empty v) l) (option_number (hiding empty v) l.options.cols)) (nil_hidden l.series)

module _ {Reg : Type 0} where
  rested_keeps : (place : ℕ) (g : Names) (v : View Reg) → rested place (hiding g v) ≡ hiding g (rested place v)
  rested_keeps zero g v = refl
  rested_keeps (suc place) g v = refl

  pub loop_hides : (name : List ℕ) (r : RoundsShape) (g : Names) (v : View Reg)
      → loop_takes name r (hiding g v) ≡ overlaid g (loop_takes name r (hiding empty v))
  loop_hides name r g v =
      answers_hide (Ok (cond (is_left r.place v.interrupt) end_turn (item_turn name r.place r.size (slice_get r.left 0)))) (following r)
      (rested r.place) (rested_keeps r.place) g v

  stage_hides : (s : Stage) (name : List ℕ) (t : TableShape) (g : Names) (v : View Reg)
      → stage_takes s name t (hiding g v) ≡ overlaid g (stage_takes s name t (hiding empty v))
  stage_hides Text name t g v =
      answers_hide (Ok (text_turn (text_at t (is_left t.place v.interrupt)))) (after_text t (is_left t.place v.interrupt)) (rested t.place)
      (rested_keeps t.place) g v
  stage_hides Body name t g v = answers_hide (Ok (body_of name t)) (after_body t) (λ w. w) (λ h w. refl) g v
  stage_hides End name t g v = answers_hide (Ok end_turn) t (λ w. w) (λ h w. refl) g v

  pub table_hides : (name : List ℕ) (t : TableShape) (g : Names) (v : View Reg)
      → table_takes name t (hiding g v) ≡ overlaid g (table_takes name t (hiding empty v))
  table_hides name t g v = stage_hides t.stage name t g v
