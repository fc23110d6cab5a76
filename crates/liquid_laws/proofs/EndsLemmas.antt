-- Runs, one after another.
use Rattle.std.proofs.Common.{◌≡◌, ℕ, List, [], ◌++◌, Option, None, Some, option_map, refl, sym, ap, ◌∙◌, subst}
use Rattle.std.proofs.lemmas.List.{append-nil, map-id}
use Rattle.std.proofs.lemmas.List.Concat.{flat_map-append}
use Rattle.std.proofs.lemmas.Iterator.Adapters.{option_map_id}
use Rattle.liquid_error.specs.meaning.Refusal.{Refusal}
use Rattle.liquid_runtime.specs.meaning.Frames.{no_frame}
use Rattle.liquid_runtime.specs.meaning.View.{View}
use Rattle.liquid_template.specs.meaning.Actions.{and_then, asks, done, goes_on, refused_through, under, writes}
use Rattle.liquid_template.specs.meaning.Run.{Action, Run, Step, written}
use Rattle.liquid_tags.proofs.LoopRunLemmas.{goes_on_same}
use Rattle.liquid_laws.specs.meaning.loops.Ends.{Ends}

module _ {Reg : Type 0} where
  -- what follows may be replaced by what does the same
  pub then_same : (r : Run Reg) (f g : Action Reg) → ((w : View Reg) → f w ≡ g w) → and_then r f ≡ and_then r g
  then_same r f g e = goes_on_same r.refusal r f g e

  -- nothing follows
  nothing_more : (o : Option Refusal) (r : Run Reg) → r.refusal ≡ o → goes_on o r done ≡ r
  nothing_more None r e =
      ap (λ (steps : List (Step Reg)). record { steps = steps; refusal = None; view = r.view }) (append-nil r.steps)
      ∙ ap (λ (o : Option Refusal). record { steps = r.steps; refusal = o; view = r.view }) (sym e)
  nothing_more (Some refusal) r e = refl

  pub then_done : (r : Run Reg) → and_then r done ≡ r
  then_done r = nothing_more r.refusal r refl

  -- without a frame and a trace
  pub unframed : (fresh : Reg) (inner : Action Reg) (v : View Reg) → under fresh no_frame None inner v ≡ inner v
  unfolding under
  unframed fresh inner v =
      let r = inner v in
      ap (λ (steps : List (Step Reg)). record { steps = steps; refusal = option_map (refused_through None) r.refusal; view = r.view })
      (map-id r.steps)
      ∙ ap (λ (o : Option Refusal). record { steps = r.steps; refusal = o; view = r.view }) (option_map_id r.refusal)

  -- a run after one that is not refused
  pub then_ends : (r : Run Reg) (next : Action Reg) (v w : View Reg) (text later : List ℕ) → Ends r text v → Ends (next v) later w
      → Ends (and_then r next) (text ++ later) w
  then_ends r next v w text later first second =
      let whole : View Reg → Run Reg =
      λ x. record { steps = r.steps ++ (next x).steps; refusal = (next x).refusal; view = (next x).view } in
      subst (λ (q : Run Reg). Ends q (text ++ later) w)
      (sym (ap (λ o. goes_on o r next) first.0 ∙ ap whole first.2)) (
        second.0,
        flat_map-append (λ (step : Step Reg). step.piece) r.steps (next v).steps ∙ ap (λ a. a ++ written (next v)) first.1
            ∙ ap (λ b. text ++ b) second.1,
        second.2,
      )

  pub asks_ends : (v : View Reg) → Ends (asks v) [] v
  asks_ends v = (refl, refl, refl)

  pub writes_ends : (text : List ℕ) (v : View Reg) → Ends (writes text v) text v
  writes_ends text v = (refl, append-nil text, refl)
