-- The tag `badge` does not depend on hidden globals.
use Rattle.std.proofs.Common.{ℕ, refl, ap, ◌∙◌, Ok}
use Rattle.std.specs.FinMap.{empty}
use Rattle.liquid_plugins.specs.meaning.Discreet.{Discreet, hiding, HidesGlobals}
use Rattle.liquid_plugins.specs.meaning.Evaluation.{evaluate}
use Rattle.liquid_plugins.specs.meaning.Expression.{ExpressionShape}
use Rattle.liquid_plugins.specs.meaning.Turning.{answers, begins_with}
use Rattle.liquid_plugins.proofs.Hiding.{answers_hide, evaluate_hidden}
use Rattle.example_shop.specs.meaning.Badges.{badge, badge_takes, badge_turn}

module _ {Reg : Type 0} where
  badge_start_hides : (e : ExpressionShape) → HidesGlobals {A = ℕ} {P = Unit {0}} {Reg = Reg} (begins_with 1)
  badge_start_hides e g v = answers_hide (Ok 1) tt (λ w. w) (λ h w. refl) g v

  badge_turn_hides : (e : ExpressionShape) (p : ℕ) → HidesGlobals {Reg = Reg} (badge_takes e p)
  badge_turn_hides e p g v =
      ap (λ r. answers (badge_turn r) p (hiding g v)) (evaluate_hidden g v e)
      ∙ answers_hide (badge_turn (evaluate (hiding empty v) e)) p (λ w. w) (λ h w. refl) g v

  pub badge_hides : Discreet {Reg = Reg} badge
  badge_hides = record { start = badge_start_hides; turn = badge_turn_hides }
