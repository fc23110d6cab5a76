use Rattle.std.proofs.Common.{Ok, rules, refl, ap, ◌∙◌, option_map}
use Rattle.liquid_plugins.specs.meaning.TurnOf.{turn_of}
use Rattle.liquid_template.proofs.Goings.{
  asked_true,
  asked_false,
  owed_above,
  ends_stopped,
  ends_refused,
  ends_over,
  text_ends,
  text_goes,
  body_opens,
  body_ends,
  capture_opens,
  capture_ends,
  partial_opens,
  partial_ends,
}
use Rattle.liquid_template.proofs.turn.take_turn.Goals as goal

pub returns-then-not-pass_turn-clause-turned : goal.returns-then-not-pass_turn-clause-turned
returns-then-not-pass_turn-clause-turned g c =
    rw c.refuse.ensures (
      ends_stopped _ _ _ _ _ _ _ _ _ (asked_false _ _ _ c.if-not-pass_turn.true c.pass_turn.ensures.turn)
          c.stopped_error.ensures,
      refl,
    )

pub returns-in-Err-clause-turned : goal.returns-in-Err-clause-turned
returns-in-Err-clause-turned g c =
    rw c.refuse-in-Err.ensures (
      ends_refused _ _ _ _ _ _ _ c.turn.ensures.frames _ _
          (asked_true _ _ _ c.if-not-pass_turn.false c.pass_turn.ensures.turn) _ c.in-Err.ensures.answer c.in-Err.ensures.after,
      c.turn.ensures.owes,
    )

pub returns-in-Ok-End-clause-turned : goal.returns-in-Ok-End-clause-turned
returns-in-Ok-End-clause-turned g c = (
  ends_over _ _ _ _ _ _ _ c.turn.ensures.frames _ _ (asked_true _ _ _ c.if-not-pass_turn.false c.pass_turn.ensures.turn)
      c.in-Ok-End.ensures.after _ (search rules) (c.in-Ok-End.ensures.answer ∙ ap (λ x. Ok (turn_of x)) c.in-Ok-End.field-0-is),
  c.turn.ensures.owes,
)

pub returns-in-Ok-clause-turned : goal.returns-in-Ok-clause-turned
returns-in-Ok-clause-turned g c = (
  text_goes _ _ _ _ _ _ _ c.turn.ensures.frames _ _ (asked_true _ _ _ c.if-not-pass_turn.false c.pass_turn.ensures.turn)
      c.in-Ok-Text.ensures.after _ c.in-Ok-Text.ensures.progress _ _ _
      (c.in-Ok-Text.ensures.answer ∙ ap (λ x. Ok (turn_of x)) c.in-Ok-Text.field-0-is)
      (rw (c.as_str.ensures.value, c.in-Ok.is) at c.put.ensures.put),
  search rules,
  c.turn.ensures.owes,
)

pub returns-in-Ok-Text-clause-turned : goal.returns-in-Ok-Text-clause-turned
returns-in-Ok-Text-clause-turned g c =
    rw c.in-Err-answer.is (
      text_ends _ _ _ _ _ _ _ c.turn.ensures.frames _ _
          (asked_true _ _ _ c.if-not-pass_turn.false c.pass_turn.ensures.turn) c.in-Ok-Text.ensures.after _
          c.in-Ok-Text.ensures.progress _ _ _
          (c.in-Ok-Text.ensures.answer ∙ ap (λ x. Ok (turn_of x)) c.in-Ok-Text.field-0-is)
          (rw (c.as_str.ensures.value, c.in-Err-answer.is) at c.put.ensures.put),
      c.turn.ensures.owes,
    )

pub returns-in-true-clause-turned : goal.returns-in-true-clause-turned
returns-in-true-clause-turned g c =
    let b = c.in-true.ensures.begins in (
      rw b.2 (body_opens _ _ _ _ _ _ _ c.turn.ensures.frames _ _ (asked_true _ _ _ c.if-not-pass_turn.false c.pass_turn.ensures.turn)
          c.in-Ok-Body.ensures.after _ c.in-Ok-Body.ensures.progress _ _ _ _ _ _
          (c.in-Ok-Body.ensures.answer ∙ ap (λ x. Ok (turn_of x)) c.in-Ok-Body.field-0-is) b.0
          (owed_above _ _ _ _ b.1 c.turn.ensures.owes)),
      b.3,
    )

pub returns-in-Ok-Body-clause-turned : goal.returns-in-Ok-Body-clause-turned
returns-in-Ok-Body-clause-turned g c =
    let b = c.in-false.ensures.begins in (
      body_ends _ _ _ _ _ _ _ c.turn.ensures.frames _ _ (asked_true _ _ _ c.if-not-pass_turn.false c.pass_turn.ensures.turn)
          c.in-Ok-Body.ensures.after _ c.in-Ok-Body.ensures.progress _ _ _ _ _
          (c.in-Ok-Body.ensures.answer ∙ ap (λ x. Ok (turn_of x)) c.in-Ok-Body.field-0-is) b.2 b.0,
      b.1 ∙ c.turn.ensures.owes,
    )

pub returns-in-true-begin-clause-turned : goal.returns-in-true-begin-clause-turned
returns-in-true-begin-clause-turned g c =
    let b = c.in-true-begin.ensures.begins in (
      rw b.2 (capture_opens _ _ _ _ _ _ _ c.turn.ensures.frames _ _
          (asked_true _ _ _ c.if-not-pass_turn.false c.pass_turn.ensures.turn) c.in-Ok-Capture.ensures.after _
          c.in-Ok-Capture.ensures.progress
          _ _ _ _ _ _ (c.in-Ok-Capture.ensures.answer ∙ ap (λ x. Ok (turn_of x)) c.in-Ok-Capture.field-0-is) b.0
          (owed_above _ _ _ _ b.1 c.turn.ensures.owes)),
      b.3,
    )

pub returns-in-Ok-Capture-clause-turned : goal.returns-in-Ok-Capture-clause-turned
returns-in-Ok-Capture-clause-turned g c =
    let b = c.in-false-begin.ensures.begins in (
      capture_ends _ _ _ _ _ _ _ c.turn.ensures.frames _ _ (asked_true _ _ _ c.if-not-pass_turn.false c.pass_turn.ensures.turn)
          c.in-Ok-Capture.ensures.after _ c.in-Ok-Capture.ensures.progress _ _ _ _ _
          (c.in-Ok-Capture.ensures.answer ∙ ap (λ x. Ok (turn_of x)) c.in-Ok-Capture.field-0-is) b.2 b.0,
      b.1 ∙ c.turn.ensures.owes,
    )

pub returns-in-Some-clause-turned : goal.returns-in-Some-clause-turned
returns-in-Some-clause-turned g c =
    let o = rw (ap (option_map g.S.Store.PartialStore.finds) c.in-Ok-Partial.ensures.store, c.deref.ensures) at c.in-Some.ensures.opens in
    rw o.3 (
      partial_opens _ _ _ _ _ _ _ c.turn.ensures.frames _ _
          (asked_true _ _ _ c.if-not-pass_turn.false c.pass_turn.ensures.turn) c.in-Ok-Partial.ensures.after _
          c.in-Ok-Partial.ensures.progress
          _ _ _ _ _ _ _ (c.in-Ok-Partial.ensures.answer ∙ ap (λ x. Ok (turn_of x)) c.in-Ok-Partial.field-0-is) o.2 o.0
          (owed_above _ _ _ _ o.1 c.turn.ensures.owes),
      o.4,
    )

pub returns-clause-turned : goal.returns-clause-turned
returns-clause-turned g c =
    let o = rw (ap (option_map g.S.Store.PartialStore.finds) c.in-Ok-Partial.ensures.store, c.deref.ensures) at c.in-None.ensures.opens in (
      partial_ends _ _ _ _ _ _ _ c.turn.ensures.frames _ _ (asked_true _ _ _ c.if-not-pass_turn.false c.pass_turn.ensures.turn)
          c.in-Ok-Partial.ensures.after _ c.in-Ok-Partial.ensures.progress _ _ _ _ _
          (c.in-Ok-Partial.ensures.answer ∙ ap (λ x. Ok (turn_of x)) c.in-Ok-Partial.field-0-is) o.1,
      o.0 ∙ c.turn.ensures.owes,
    )
