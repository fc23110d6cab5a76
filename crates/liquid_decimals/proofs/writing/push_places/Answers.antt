use Rattle.std.proofs.Common.{◌≡◌, ◌+◌, ◌-◌, ◌/◌, ◌%◌, ◌∷◌, [], ◌++◌, ap, ◌∙◌, arith}
use Rattle.std.specs.Prelude.{string_bytes}
use Rattle.liquid_decimals.proofs.Digits.{next_place}
use Rattle.liquid_decimals.proofs.writing.push_places.Goals as goal

pub loop-left-preserved : goal.loop-left-preserved
loop-left-preserved c =
    let text = string_bytes c.loop-left.text in
    let pushed : string_bytes c.push.new.self ≡ text ++ (c.digit.result ∷ []) =
    c.in_ok-push.ensures.bytes ∙ ap (λ e. text ++ e) (c.in_ok-push.ensures.ascii c.digit.ensures.ascii) in (
      next_place text (string_bytes c.push.new.self) c.loop-left.left (c.loop-left.left - 1) c.args.magnitude c.digit.result (omega arith)
          (c.digit.ensures.value ∙ ap (λ p. 48 + c.args.magnitude / p % 10) c.ten_to.ensures.value) pushed
          ∙ c.loop-left.invariant.0,
      omega arith,
    )
