-- A sandboxed frame that is pushed, rendered under and popped.
use Rattle.std.proofs.Common.{◌≡◌, ℕ, List, ◌∷◌, Option, None, Result, Err, sym, ap, ◌∙◌, subst}
use Rattle.liquid_error.specs.declared.error.Error.{Error}
use Rattle.liquid_error.specs.meaning.Told.{told}
use Rattle.liquid_runtime.specs.meaning.Maps.{Names}
use Rattle.liquid_runtime.specs.meaning.View.{View}
use Rattle.liquid_runtime.specs.meaning.Emptied.{emptied}
use Rattle.liquid_runtime.specs.meaning.Frames.{sandboxed_frame, Restore, beginning, restored_by, restore_sandboxed, ending}
use Rattle.liquid_runtime.specs.meaning.OpenFrames.{EndsFirst}
use Rattle.liquid_plugins.specs.meaning.Discreet.{Discreet}
use Rattle.liquid_plugins.specs.meaning.Nodes.{Nodes}
use Rattle.liquid_template.specs.meaning.Nodes.{Setting}
use Rattle.liquid_template.specs.meaning.Rendering.{template_run, sandboxed_run}
use Rattle.liquid_template.specs.meaning.Run.{Action}
use Rattle.liquid_template.specs.meaning.Sandboxed.{HasGlobals, Untouched, run_over_outside}
use Rattle.liquid_template.specs.meaning.Output.{Output}
use Rattle.liquid_template.specs.meaning.Outcome.{RendersWithin}
use Rattle.liquid_template.proofs.Framing.{renders_framed, renders_memory, becomes_itself}
use Rattle.liquid_template.proofs.Isolation.{isolated}

-- the outcome is that of a run over the outside, and if the outside has globals, also that of its run over the emptied
-- outside
pub record SandboxedWithin {Reg : Type 0} (fresh : Reg) (action : Action Reg) (outside : View Reg) (before after : Output) (left : View Reg)
    (answer : Result (Unit {0}) Error) : Type 0 where
  pub renders : RendersWithin (action outside) outside before after left answer
  pub isolated : HasGlobals outside → RendersWithin (run_over_outside outside (action (emptied fresh outside))) outside before after left
      answer

module _ {Reg F T P B Q : Type 0} (s : Setting Reg F T P B Q) (tl : Discreet s.tags) (bl : Discreet s.blocks) (names : Names)
    (name : Option (List ℕ)) (ns : Nodes F T B) where
  -- what renders the run over the outside renders that over the emptied outside
  sandboxed : (v x : View Reg) (b a : Output) (answer : Result (Unit {0}) Error)
      → RendersWithin (sandboxed_run s names name ns v) v b a x answer
      → SandboxedWithin s.fresh (sandboxed_run s names name ns) v b a x answer
  sandboxed v x b a answer r = record {
    renders = r;
    isolated = λ there. subst (λ q. RendersWithin q v b a x answer) (isolated s tl bl names name ns v there) r;
  }

  pub sandboxed_memory : (v : View Reg) (b : Output) (e : Error) → told e ≡ None
      → SandboxedWithin s.fresh (sandboxed_run s names name ns) v b b v (Err e)
  sandboxed_memory v b e h = sandboxed v v b b (Err e) (renders_memory (sandboxed_run s names name ns v) v b e h)

  -- the name may be given as an owned text
  pub sandboxed_renders : (own : Option (List ℕ)) (v v1 w x : View Reg) (rs rs1 rs2 rs3 : List (Restore Reg)) (b a : Output)
      (answer : Result (Unit {0}) Error)
      → own ≡ name → v1 ≡ beginning s.fresh (sandboxed_frame names own) v → rs1 ≡ restored_by (sandboxed_frame names own) v ∷ rs → rs2 ≡ rs1
      → EndsFirst rs2 w rs3 x → RendersWithin (template_run s ns v1) v1 b a w answer
      → SandboxedWithin s.fresh (sandboxed_run s names name ns) v b a x answer
  sandboxed_renders own v v1 w x rs rs1 rs2 rs3 b a answer e h i j k r =
      sandboxed v x b a answer (subst (λ n. RendersWithin (sandboxed_run s names n ns v) v b a x answer) e
      (renders_framed s.fresh (sandboxed_frame names own) None (template_run s ns) v v1 w x rs rs1 rs2 rs3 b a answer answer h i j k
      (becomes_itself answer) r))

-- a sandboxed frame gives interrupt and register back when it ends
module _ {Reg : Type 0} where
  first_is : (r r' : Restore Reg) (rs rs' : List (Restore Reg)) → r ∷ rs ≡ r' ∷ rs' → r ≡ r'
  first_is r r' rs rs' e = cc

  pub untouched_still : (v x : View Reg) → x ≡ v → Untouched v x
  untouched_still v x e = record { interrupt = ap (λ y. y.interrupt) e; register = ap (λ y. y.register) e }

  pub untouched_after : (v w x : View Reg) (rs rs1 rs2 rs3 : List (Restore Reg))
      → rs1 ≡ restore_sandboxed v.locals v.base v.shown v.floor v.name v.interrupt v.register ∷ rs → rs2 ≡ rs1 → EndsFirst rs2 w rs3 x
      → Untouched v x
  untouched_after v w x rs rs1 rs2 rs3 i j k =
      let r : Restore Reg = restore_sandboxed v.locals v.base v.shown v.floor v.name v.interrupt v.register in
      let left : x ≡ ending r w = k.is_ended ∙ ap (λ y. ending y w) (first_is k.restores r rs3 rs (sym k.was_first ∙ j ∙ i)) in
      record { interrupt = ap (λ y. y.interrupt) left; register = ap (λ y. y.register) left }
