-- `cycle` and `ifchanged` do not depend on hidden globals.
use Rattle.std.proofs.Common.{◌≡◌, ℕ, List, Bool, true, false, Option, None, Some, Result, Ok, Err, refl, ap, ◌∙◌}
use Rattle.std.specs.Prelude.{slice_get, length}
use Rattle.std.specs.FinMap.{empty}
use Rattle.liquid_error.specs.meaning.Refusal.{Refusal, ok_then}
use Rattle.liquid_value.specs.meaning.Render.{render}
use Rattle.liquid_runtime.specs.meaning.Frames.{no_frame}
use Rattle.liquid_runtime.specs.meaning.Maps.{Names}
use Rattle.liquid_runtime.specs.meaning.View.{View}
use Rattle.liquid_plugins.specs.meaning.Discreet.{hiding, overlaid}
use Rattle.liquid_plugins.specs.meaning.Expression.{ExpressionShape}
use Rattle.liquid_plugins.specs.meaning.Turning.{answers}
use Rattle.liquid_plugins.specs.meaning.Turns.{capture_turn, end_turn, text_turn}
use Rattle.liquid_plugins.proofs.Hiding.{answers_hide, evaluate_hidden}
use Rattle.liquid_std.specs.declared.marks.cycle.CycleShape.{CycleShape}
use Rattle.liquid_std.specs.declared.marks.groups.GroupShape.{GroupShape}
use Rattle.liquid_std.specs.declared.marks.marks.MarksShape.{MarksShape}
use Rattle.liquid_std.specs.declared.marks.groups.GroupShape.TheVariants.{Named, Unnamed}
use Rattle.liquid_std.specs.meaning.marks.Changes.{changes, unless_last}
use Rattle.liquid_std.specs.meaning.marks.Cycles.{cycles, next_of, next_place, text_at, text_of, view_after}
use Rattle.liquid_std.specs.meaning.marks.Groups.{key_in, named_key}
use Rattle.liquid_std.specs.meaning.marks.Held.{MarksIn, marked, marks_in}
use Rattle.liquid_std.specs.meaning.marks.Marks.{is_last, place_of, with_last, with_place}

-- the text and the marks after it
abbrev next_marks : CycleShape → MarksShape → List ℕ → List ℕ → Result (List ℕ × MarksShape) Refusal
next_marks c m key text = Ok (text, with_place key (next_place (place_of m key) (length c.values)) m)

module _ {Reg : Type 0} (held : MarksIn Reg) (g : Names) (v : View Reg) where
  key_hidden : (group : GroupShape) → key_in (hiding g v) group ≡ key_in (hiding empty v) group
  key_hidden (Named e) = ap (λ r. ok_then r named_key) (evaluate_hidden g v e)
  key_hidden (Unnamed key) = refl

  text_hidden : (e : Option ExpressionShape) → text_of (hiding g v) e ≡ text_of (hiding empty v) e
  text_hidden None = refl
  text_hidden (Some e) = ap (λ r. ok_then r (λ t. Ok (render t))) (evaluate_hidden g v e)

  text_after_key_hidden : (c : CycleShape) (m : MarksShape) (key : Result (List ℕ) Refusal)
      → ok_then key (λ k. ok_then (text_at (hiding g v) c.values (place_of m k)) (next_marks c m k))
      ≡ ok_then key (λ k. ok_then (text_at (hiding empty v) c.values (place_of m k)) (next_marks c m k))
  text_after_key_hidden c m (Ok k) = ap (λ r. ok_then r (next_marks c m k)) (text_hidden (slice_get c.values (place_of m k)))
  text_after_key_hidden c m (Err r) = refl

  next_hidden : (c : CycleShape) (m : MarksShape) → next_of (hiding g v) c m ≡ next_of (hiding empty v) c m
  next_hidden c m =
      ap (λ key. ok_then key (λ k. ok_then (text_at (hiding g v) c.values (place_of m k)) (next_marks c m k))) (key_hidden c.group)
      ∙ text_after_key_hidden c m (key_in (hiding empty v) c.group)

  told_hides : {P : Type 0} (p : P) (next : Result (List ℕ × MarksShape) Refusal)
      → answers (ok_then next (λ n. Ok (text_turn n.0))) p (view_after held (hiding g v) next)
      ≡ overlaid g (answers (ok_then next (λ n. Ok (text_turn n.0))) p (view_after held (hiding empty v) next))
  told_hides p (Ok next) = answers_hide (Ok (text_turn next.0)) p (marked held next.1) (λ h w. refl) g v
  told_hides p (Err r) = answers_hide (Err r) p (λ w. w) (λ h w. refl) g v

  pub cycles_hide : {P : Type 0} (c : CycleShape) (p : P) → cycles held c p (hiding g v) ≡ overlaid g (cycles held c p (hiding empty v))
  cycles_hide c p =
      let next = next_of (hiding empty v) c (marks_in held v) in
      ap (λ n. answers (ok_then n (λ x. Ok (text_turn x.0))) p (view_after held (hiding g v) n)) (next_hidden c (marks_in held v))
      ∙ told_hides p next

  unless_last_hides : (text : List ℕ) (is : Bool) → unless_last held text (hiding g v) is ≡ overlaid g
      (unless_last held text (hiding empty v) is)
  unless_last_hides text true = answers_hide (Ok end_turn) None (λ w. w) (λ h w. refl) g v
  unless_last_hides text false =
      answers_hide (Ok (text_turn text)) None (λ w. marked held (with_last text (marks_in held w)) w) (λ h w. refl) g v

  pub changes_hide : (caught : Option (List ℕ)) → changes held caught (hiding g v) ≡ overlaid g (changes held caught (hiding empty v))
  changes_hide None = answers_hide (Ok (capture_turn 0 no_frame None)) None (λ w. w) (λ h w. refl) g v
  changes_hide (Some text) = unless_last_hides text (is_last text (marks_in held v))
