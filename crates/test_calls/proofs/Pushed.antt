-- A frame that was pushed, and is popped again.
use Rattle.std.proofs.Common.{◌≡◌, ◌<◌, List, ◌∷◌, length, sym, ◌∙◌, arith}
use Rattle.liquid_runtime.specs.meaning.View.{View}
use Rattle.liquid_runtime.specs.meaning.Frames.{
  FrameShape,
  no_frame,
  stack_frame,
  sandboxed_frame,
  isolated_frame,
  global_frame,
  Restore,
  restored_by,
}
use Rattle.liquid_runtime.specs.meaning.OpenFrames.{opened, EndsFirst}

later_are : {A : Type 0} (x y : A) (xs ys : List A) → x ∷ xs ≡ y ∷ ys → xs ≡ ys
later_are x y xs ys e = cc

module _ {Reg : Type 0} where
  pub can_be_popped : (frame : FrameShape) (v : View Reg) (rs : List (Restore Reg)) → 0 < length (opened (restored_by frame v ∷ rs))
  can_be_popped no_frame v rs = omega arith
  can_be_popped (stack_frame names name) v rs = omega arith
  can_be_popped (sandboxed_frame names name) v rs = omega arith
  can_be_popped (isolated_frame names name) v rs = omega arith
  can_be_popped global_frame v rs = omega arith

  pub as_before : (frame : FrameShape) (v w x : View Reg) (rs rs1 rs2 rs3 : List (Restore Reg)) → rs1 ≡ restored_by frame v ∷ rs → rs2 ≡ rs1
      → EndsFirst rs2 w rs3 x → rs3 ≡ rs
  as_before frame v w x rs rs1 rs2 rs3 i j k = sym (later_are (restored_by frame v) k.restores rs rs3 (sym i ∙ sym j ∙ k.was_first))

pub ruleset pushed = (can_be_popped, as_before)
