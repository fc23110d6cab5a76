-- A frame that is pushed, rendered under and popped.
use Rattle.std.proofs.Common.{
  ◌≡◌,
  ℕ,
  ◌<◌,
  List,
  ◌∷◌,
  length,
  Option,
  None,
  Some,
  Result,
  Ok,
  Err,
  IfSome,
  refl,
  sym,
  ap,
  subst,
  ◌∙◌,
  arith,
  option_map,
}
use Rattle.liquid_error.specs.declared.error.Error.{Error}
use Rattle.liquid_error.specs.meaning.Refusal.{Refusal}
use Rattle.liquid_error.specs.meaning.Told.{told}
use Rattle.liquid_error.specs.meaning.Helpers.{ErrBecomes}
use Rattle.liquid_runtime.specs.meaning.View.{View}
use Rattle.liquid_runtime.specs.meaning.Frames.{
  FrameShape,
  no_frame,
  stack_frame,
  sandboxed_frame,
  isolated_frame,
  global_frame,
  Restore,
  beginning,
  restored_by,
  ending,
}
use Rattle.liquid_runtime.specs.meaning.OpenFrames.{opened, EndsFirst}
use Rattle.liquid_template.specs.meaning.Run.{Run, Action}
use Rattle.liquid_template.specs.meaning.Actions.{under, refused_through}
use Rattle.liquid_template.specs.meaning.Output.{Output, ungated}
use Rattle.liquid_template.specs.meaning.Sunk.{Sunk}
use Rattle.liquid_template.specs.meaning.Outcome.{Renders, RendersWithin}
use Rattle.liquid_template.proofs.Joins.{renders_under, renders_refused}

pub first_is : {A : Type 0} (x y : A) (xs ys : List A) → x ∷ xs ≡ y ∷ ys → x ≡ y
first_is x y xs ys e = cc

pub later_are : {A : Type 0} (x y : A) (xs ys : List A) → x ∷ xs ≡ y ∷ ys → xs ≡ ys
later_are x y xs ys e = cc

module _ {Reg : Type 0} where
  -- a frame that was pushed can be popped
  pub opened_restored : (frame : FrameShape) (v : View Reg) (rs : List (Restore Reg)) → 0 < length (opened (restored_by frame v ∷ rs))
  opened_restored no_frame v rs = omega arith
  opened_restored (stack_frame names name) v rs = omega arith
  opened_restored (sandboxed_frame names name) v rs = omega arith
  opened_restored (isolated_frame names name) v rs = omega arith
  opened_restored global_frame v rs = omega arith

  pub owed_open : (frame : FrameShape) (v : View Reg) (rs rs1 rs2 : List (Restore Reg)) → rs1 ≡ restored_by frame v ∷ rs → rs2 ≡ rs1
      → 0 < length (opened rs2)
  owed_open frame v rs rs1 rs2 owes same = subst (λ z. 0 < length (opened z)) (sym (same ∙ owes)) (opened_restored frame v rs)

  -- memory ran out before anything was rendered
  pub renders_memory : (r : Run Reg) (v : View Reg) (b : Output) (e : Error) → told e ≡ None → RendersWithin r v b b v (Err e)
  renders_memory r v b e h = renders_refused r v v b e (rw h tt) refl

  -- pushed, rendered, popped
  pub renders_framed : (fresh : Reg) (frame : FrameShape) (trace : Option (List ℕ)) (inner : Action Reg) (v v1 w x : View Reg)
      (rs rs1 rs2 rs3 : List (Restore Reg)) (b a : Output) (answer answer' : Result (Unit {0}) Error)
      → v1 ≡ beginning fresh frame v → rs1 ≡ restored_by frame v ∷ rs → rs2 ≡ rs1 → EndsFirst rs2 w rs3 x
      → ErrBecomes (refused_through trace) answer answer'
      → RendersWithin (inner v1) v1 b a w answer → RendersWithin (under fresh frame trace inner v) v b a x answer'
  renders_framed fresh frame trace inner v v1 w x rs rs1 rs2 rs3 b a answer answer' h i j k e r =
      let same : restored_by frame v ∷ rs ≡ k.restores ∷ rs3 = sym i ∙ sym j ∙ k.was_first in
      let is : x ≡ ending (restored_by frame v) w =
      k.is_ended ∙ ap (λ o. ending o w) (sym (first_is (restored_by frame v) k.restores rs rs3 same)) in
      subst (λ u. RendersWithin (under fresh frame trace inner v) v b a u answer') (sym is)
      (renders_under fresh frame trace inner v w b a answer answer' e (subst (λ u. RendersWithin (inner u) u b a w answer) h r))

  pub framed_kept : (frame : FrameShape) (v w x : View Reg) (rs rs1 rs2 rs3 : List (Restore Reg)) → rs1 ≡ restored_by frame v ∷ rs
      → rs2 ≡ rs1 → EndsFirst rs2 w rs3 x → rs3 ≡ rs
  framed_kept frame v w x rs rs1 rs2 rs3 i j k = sym (later_are (restored_by frame v) k.restores rs rs3 (sym i ∙ sym j ∙ k.was_first))

-- a rendering without a gate is one within no gate
module _ {Reg : Type 0} where
  pub without_gate : (r : Run Reg) (v x : View Reg) (b a : Sunk) (answer : Result (Unit {0}) Error)
      → RendersWithin r v (ungated b) (ungated a) x answer → Renders r v b a x answer
  without_gate r v x b a answer h = record { outcome = h.outcome; frames = h.frames; pours = h.pours }

pub ruleset framing = (renders_framed, framed_kept, renders_memory, opened_restored)

told_same : (t : Option Refusal) → IfSome t (λ refusal. option_map (refused_through None) t ≡ Some refusal)
told_same None = tt
told_same (Some refusal) = refl

-- without a trace no error is changed
pub becomes_itself : (answer : Result (Unit {0}) Error) → ErrBecomes (refused_through None) answer answer
becomes_itself (Ok u) = refl
becomes_itself (Err e) = told_same (told e)
