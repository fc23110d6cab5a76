-- Text tags do not depend on hidden globals.
use Rattle.std.proofs.Common.{◌≡◌, Ok, refl, sym, ap, ◌∙◌}
use Rattle.std.specs.FinMap.{empty}
use Rattle.liquid_error.specs.meaning.Refusal.{ok_then}
use Rattle.liquid_runtime.specs.meaning.Maps.{Names}
use Rattle.liquid_runtime.specs.meaning.View.{View}
use Rattle.liquid_plugins.specs.meaning.Discreet.{Discreet, hiding}
use Rattle.liquid_plugins.specs.meaning.Turning.{answers}
use Rattle.liquid_plugins.specs.meaning.Turns.{text_turn}
use Rattle.liquid_plugins.proofs.Hiding.{answers_hide}
use Rattle.liquid_filters.specs.declared.call.CallShape.{CallShape}
use Rattle.liquid_filters.proofs.ArgumentSteps.{evaluate_arguments_erased}
use Rattle.liquid_extend.specs.declared.text_tags.kind.TagAnswer.{TagAnswer}
use Rattle.liquid_extend.specs.meaning.text_tags.Nodes.{tag_turn, text_nodes}
use Rattle.liquid_extend.specs.meaning.text_tags.Sense.{TextTagSense}

module _ {K Reg : Type 0} (sense : K → TextTagSense) where
  turn_hidden : (call : CallShape (TagAnswer K)) (g : Names) (v : View Reg)
      → tag_turn sense call (hiding g v) ≡ tag_turn sense call (hiding empty v)
  turn_hidden call g v =
      ap (λ r. ok_then r (λ given. ok_then ((sense call.kind.tag).answers given) (λ bytes. Ok (text_turn bytes))))
      (sym (evaluate_arguments_erased (hiding g v) call.positional call.keyword)
      ∙ evaluate_arguments_erased (hiding empty v) call.positional call.keyword)

  pub text_tags_hide : Discreet {Reg = Reg} (text_nodes sense)
  text_tags_hide = record {
    start = λ call g v. answers_hide (Ok 1) tt (λ w. w) (λ h w. refl) g v;
    turn = λ call p g v. ap (λ r. answers r p (hiding g v)) (turn_hidden call g v)
        ∙ answers_hide (tag_turn sense call (hiding empty v)) p (λ w. w) (λ h w. refl) g v;
  }
