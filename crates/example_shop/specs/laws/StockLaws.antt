-- The block `stock` does not depend on hidden globals.
use Rattle.std.proofs.Common.{ℕ, refl, ap, ◌∙◌, None, Ok}
use Rattle.std.specs.FinMap.{empty}
use Rattle.liquid_error.specs.meaning.Refusal.{ok_then}
use Rattle.liquid_runtime.specs.meaning.Frames.{no_frame}
use Rattle.liquid_plugins.specs.meaning.Discreet.{Discreet, hiding, HidesGlobals}
use Rattle.liquid_plugins.specs.meaning.Evaluation.{evaluate}
use Rattle.liquid_plugins.specs.meaning.Expression.{ExpressionShape}
use Rattle.liquid_plugins.specs.meaning.Turning.{answers}
use Rattle.liquid_plugins.specs.meaning.Turns.{body_turn}
use Rattle.liquid_plugins.proofs.Hiding.{answers_hide, evaluate_hidden}
use Rattle.example_shop.specs.meaning.Stocks.{part_for, stock, stock_starts, stock_takes}

module _ {Reg : Type 0} where
  stock_start_hides : (e : ExpressionShape) → HidesGlobals {Reg = Reg} (stock_starts e)
  stock_start_hides e g v =
      ap (λ r. answers (ok_then r (λ left. Ok (part_for left))) tt (hiding g v)) (evaluate_hidden g v e)
      ∙ answers_hide (ok_then (evaluate (hiding empty v) e) (λ left. Ok (part_for left))) tt (λ w. w) (λ h w. refl) g v

  stock_turn_hides : (e : ExpressionShape) (part : ℕ) → HidesGlobals {Reg = Reg} (stock_takes e part)
  stock_turn_hides e part g v = answers_hide (Ok (body_turn part no_frame None)) part (λ w. w) (λ h w. refl) g v

  pub stock_hides : Discreet {Reg = Reg} stock
  stock_hides = record { start = stock_start_hides; turn = stock_turn_hides }
