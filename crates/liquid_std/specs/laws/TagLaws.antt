-- Tags whose turns do not depend on hidden globals.
use Rattle.std.proofs.Common.{◌≡◌, ℕ, ℤ, List, Option, None, Some, Ok, Err, refl, ap, ◌∙◌}
use Rattle.std.specs.FinMap.{empty}
use Rattle.std.specs.Fmt.{signed_decimal}
use Rattle.liquid_error.specs.meaning.Refusal.{ok_then}
use Rattle.liquid_scalar.specs.meaning.Scalar.{integer}
use Rattle.liquid_value.specs.meaning.Tree.{scalar}
use Rattle.liquid_runtime.specs.meaning.Calls.{value_in}
use Rattle.liquid_runtime.specs.meaning.Erased.{erase}
use Rattle.liquid_runtime.specs.meaning.Maps.{Names}
use Rattle.liquid_runtime.specs.meaning.Sets.{old_index, put_index}
use Rattle.liquid_runtime.specs.meaning.View.{View}
use Rattle.liquid_plugins.specs.meaning.Chain.{ChainShape, FilterMeaning, chain_value, filtered}
use Rattle.liquid_plugins.specs.meaning.Discreet.{Discreet, hiding, overlaid, HidesGlobals}
use Rattle.liquid_plugins.specs.meaning.Turning.{answers}
use Rattle.liquid_plugins.specs.meaning.Turns.{text_turn, end_turn}
use Rattle.liquid_plugins.proofs.Hiding.{answers_hide, evaluate_hidden}
use Rattle.liquid_tags.specs.laws.TagLaws as library
use Rattle.liquid_tags.specs.meaning.Counters.{counts_from, past_limit}
use Rattle.liquid_std.specs.laws.inclusion.Hidden.{call_hides, rounds_hidden}
use Rattle.liquid_std.specs.laws.marks.Hidden.{cycles_hide}
use Rattle.liquid_std.specs.meaning.marks.Held.{MarksIn}
use Rattle.liquid_std.specs.declared.tags.StdTagShape.{StdTagShape}
use Rattle.liquid_std.specs.declared.tags.StdTagShape.TheVariants.{Library, Decrement, Echo, Cycle, Calls}
use Rattle.liquid_std.specs.declared.tags.StdTagProgressShape.{StdTagProgressShape}
use Rattle.liquid_std.specs.declared.tags.StdTagProgressShape.TheVariants.{Turns, Rounds}
use Rattle.liquid_std.specs.meaning.Decrement.{counted_down, one_lower}
use Rattle.liquid_std.specs.meaning.Isolated.{library_turn}
use Rattle.liquid_std.specs.meaning.Tags.{begins_as, echo_turn, in_rounds, in_turns, tag_nodes, tag_starts, tag_takes}

module _ {F Reg : Type 0} (held : MarksIn Reg) (m : FilterMeaning F) where
  chain_hidden : (c : ChainShape F) (g : Names) (v : View Reg) → chain_value m c (hiding g v) ≡ chain_value m c (hiding empty v)
  chain_hidden c g v = ap (λ r. ok_then r (filtered m (erase (hiding empty v)) c.filters)) (evaluate_hidden g v c.entry)

  counted_hides : {P : Type 0} (name : List ℕ) (lower : Option ℤ) (p : P) (g : Names) (v : View Reg)
      → counted_down name lower p (hiding g v) ≡ overlaid g (counted_down name lower p (hiding empty v))
  counted_hides name None p g v = answers_hide (Err (past_limit name)) p (λ w. w) (λ h w. refl) g v
  counted_hides name (Some lower) p g v =
      answers_hide (ok_then (old_index v name) (λ old. Ok (text_turn (signed_decimal lower)))) p
      (λ w. put_index w name (scalar (integer lower))) (λ h w. refl) g v

  begins_hidden : (n : StdTagShape F) (g : Names) (v : View Reg) → begins_as n (hiding g v) ≡ begins_as n (hiding empty v)
  begins_hidden (Library n) g v = refl
  begins_hidden (Decrement name) g v = refl
  begins_hidden (Echo c) g v = refl
  begins_hidden (Cycle c) g v = refl
  begins_hidden (Calls c) g v = ap (λ r. ok_then r (λ q. Ok (Rounds q))) (rounds_hidden g v c)

  tag_start_hides : (n : StdTagShape F) → HidesGlobals {Reg = Reg} (tag_starts n)
  tag_start_hides n g v =
      ap (λ r. answers r tt (hiding g v)) (begins_hidden n g v) ∙ answers_hide (begins_as n (hiding empty v)) tt (λ w. w) (λ h w. refl) g v

  tag_turn_hides : (n : StdTagShape F) (p : StdTagProgressShape) → HidesGlobals {Reg = Reg} (tag_takes held m n p)
  tag_turn_hides (Library n) (Turns turns) g v = ap (λ t. in_turns (library_turn t)) ((library.tags_hide m).turn n turns g v)
  tag_turn_hides (Library n) (Rounds r) g v = answers_hide (Ok end_turn) (Rounds r) (λ w. w) (λ h w. refl) g v
  tag_turn_hides (Calls c) (Turns turns) g v = answers_hide (Ok end_turn) (Turns turns) (λ w. w) (λ h w. refl) g v
  tag_turn_hides (Calls c) (Rounds r) g v = ap in_rounds (call_hides r g v)
  tag_turn_hides (Decrement name) p g v = counted_hides name (one_lower (counts_from (value_in v.index name))) p g v
  tag_turn_hides (Echo c) p g v =
      ap (λ r. answers (echo_turn r) p (hiding g v)) (chain_hidden c g v)
      ∙ answers_hide (echo_turn (chain_value m c (hiding empty v))) p (λ w. w) (λ h w. refl) g v
  tag_turn_hides (Cycle c) p g v = cycles_hide held g v c p

  pub tags_hide : Discreet {Reg = Reg} (tag_nodes held m)
  tags_hide = record { start = tag_start_hides; turn = tag_turn_hides }
