-- What calls pass, and their turns, do not depend on hidden globals.
use Rattle.std.proofs.Common.{◌≡◌, List, [], ◌∷◌, Result, Ok, Err, refl, ap, ◌∙◌}
use Rattle.std.specs.Prelude.{slice_get}
use Rattle.std.specs.FinMap.{empty}
use Rattle.liquid_error.specs.meaning.Refusal.{Refusal, ok_then}
use Rattle.liquid_runtime.specs.meaning.Maps.{Names}
use Rattle.liquid_runtime.specs.meaning.View.{View}
use Rattle.liquid_plugins.specs.meaning.Discreet.{hiding, overlaid}
use Rattle.liquid_plugins.specs.meaning.Evaluation.{evaluate}
use Rattle.liquid_plugins.proofs.Hiding.{answers_hide, evaluate_hidden}
use Rattle.liquid_tags.specs.declared.for_block.series.SeriesShape.{SeriesShape}
use Rattle.liquid_tags.specs.declared.for_block.series.SeriesShape.TheVariants.{Of, Between}
use Rattle.liquid_tags.specs.meaning.Partials.{Pair, partial_name}
use Rattle.liquid_std.specs.laws.iteration.Hidden.{series_hidden}
use Rattle.liquid_std.specs.declared.inclusion.calls.Manner.{Manner}
use Rattle.liquid_std.specs.declared.inclusion.calls.PartialCallShape.{PartialCallShape}
use Rattle.liquid_std.specs.declared.inclusion.rounds.CallRoundsShape.{CallRoundsShape}
use Rattle.liquid_std.specs.meaning.inclusion.Passed.{is_loop, passes, value_items}
use Rattle.liquid_std.specs.meaning.inclusion.Rounds.{begun, call_rounds, call_takes, following, given_in, turn_at}

then_same : {A B : Type 0} (r : Result A Refusal) (f g : A → Result B Refusal) → ((x : A) → f x ≡ g x) → ok_then r f ≡ ok_then r g
then_same (Ok x) f g e = e x
then_same (Err refusal) f g e = refl

module _ {Reg : Type 0} (g : Names) (v : View Reg) where
  passes_hidden : (manner : Manner) (s : SeriesShape) → passes (hiding g v) manner s ≡ passes (hiding empty v) manner s
  passes_hidden manner (Of e) = ap (λ r. ok_then r (λ t. Ok (value_items manner t))) (evaluate_hidden g v e)
  passes_hidden manner (Between from to) = ap (λ r. ok_then r (λ ts. Ok (ts, is_loop manner))) (series_hidden g v (Between from to))

  given_hidden : (ps : List Pair) → given_in (hiding g v) ps ≡ given_in (hiding empty v) ps
  given_hidden [] = refl
  given_hidden (p ∷ ps) =
      ap (λ r. ok_then r (λ t. ok_then (given_in (hiding g v) ps) (λ given. Ok ((p.0, t) ∷ given)))) (evaluate_hidden g v p.1)
      ∙ ap (λ r. ok_then (evaluate (hiding empty v) p.1) (λ t. ok_then r (λ given. Ok ((p.0, t) ∷ given)))) (given_hidden ps)

  pub rounds_hidden : (c : PartialCallShape) → call_rounds (hiding g v) c ≡ call_rounds (hiding empty v) c
  rounds_hidden c =
      ap (λ r. ok_then r (λ t. ok_then (partial_name t) (λ name. ok_then (passes (hiding g v) c.manner c.series) (λ passed.
      ok_then (given_in (hiding g v) c.pairs) (λ given. Ok (begun c name passed given)))))) (evaluate_hidden g v c.name)
      ∙ ap (λ r. ok_then (evaluate (hiding empty v) c.name) (λ t. ok_then (partial_name t) (λ name. ok_then r (λ passed.
      ok_then (given_in (hiding g v) c.pairs) (λ given. Ok (begun c name passed given)))))) (passes_hidden c.manner c.series)
      ∙ ap (λ r. ok_then (evaluate (hiding empty v) c.name) (λ t. ok_then (partial_name t) (λ name.
      ok_then (passes (hiding empty v) c.manner c.series) (λ passed. ok_then r (λ given. Ok (begun c name passed given))))))
      (given_hidden c.pairs)

pub call_hides : {Reg : Type 0} (r : CallRoundsShape) (g : Names) (v : View Reg)
    → call_takes r (hiding g v) ≡ overlaid g (call_takes r (hiding empty v))
call_hides r g v = answers_hide (Ok (turn_at r (slice_get r.items r.place))) (following r) (λ w. w) (λ h w. refl) g v
