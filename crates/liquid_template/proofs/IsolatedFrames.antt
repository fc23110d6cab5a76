-- What is rendered under an isolated frame doesn't see the outside, and leaves it as it was.
use Rattle.std.proofs.Common.{◌≡◌, ℕ, List, [], ◌∷◌, map, Option, None, Result, Err, refl, sym, ap, ◌∙◌, subst, option_map}
use Rattle.liquid_error.specs.declared.error.Error.{Error}
use Rattle.liquid_error.specs.meaning.Told.{told}
use Rattle.liquid_runtime.specs.meaning.Maps.{Names}
use Rattle.liquid_runtime.specs.meaning.View.{View}
use Rattle.liquid_runtime.specs.meaning.Emptied.{emptied}
use Rattle.liquid_runtime.specs.meaning.Written.{SameFrames}
use Rattle.liquid_runtime.specs.meaning.Frames.{isolated_frame, Restore, restore_isolated, begin_isolated, beginning, restored_by, ending}
use Rattle.liquid_runtime.specs.meaning.OpenFrames.{EndsFirst}
use Rattle.liquid_plugins.specs.meaning.Nodes.{Nodes}
use Rattle.liquid_template.specs.meaning.Run.{Step, Run, Action}
use Rattle.liquid_template.specs.meaning.Actions.{refused_through, step_outside, outside, under}
use Rattle.liquid_template.specs.meaning.Nodes.{Setting}
use Rattle.liquid_template.specs.meaning.Rendering.{nodes_run, template_run, isolated_run}
use Rattle.liquid_template.specs.meaning.Isolated.{given_back, step_given_back, run_given_back, OnlyIndexChanges}
use Rattle.liquid_template.specs.meaning.Output.{Output}
use Rattle.liquid_template.specs.meaning.Outcome.{RendersWithin}
use Rattle.liquid_template.specs.laws.IsolatedFrames.{IsolatedFromOutside, IsolatedOutsidesAgree}
use Rattle.liquid_template.proofs.Framing.{renders_framed, renders_memory, becomes_itself, first_is}

module _ {Reg : Type 0} (fresh : Reg) (names : Names) (name : Option (List ℕ)) (o p : View Reg) (e : o.name ≡ p.name) where
  -- what is left when the frame ends over the outside p, and over the emptied outside o
  back_view : (v : View Reg) → ending (restored_by (isolated_frame names name) p) v ≡ given_back p
      (ending (restored_by (isolated_frame names name) (emptied fresh o)) v)
  back_view v = ap (λ n. record (ending (restored_by (isolated_frame names name) p) v) { name = n }) (sym e)

  back_steps : (ss : List (Step Reg)) → map (step_outside (restored_by (isolated_frame names name) p) None) ss ≡ map (step_given_back p)
      (map (step_outside (restored_by (isolated_frame names name) (emptied fresh o)) None) ss)
  back_steps [] = refl
  back_steps (x ∷ ss) =
      ap (λ y. record { piece = x.piece; checkpoint = x.checkpoint; traces = x.traces; at = y }
      ∷ map (step_outside (restored_by (isolated_frame names name) p) None) ss) (back_view x.at)
      ∙ ap (λ ys. step_given_back p (step_outside (restored_by (isolated_frame names name) (emptied fresh o)) None x) ∷ ys) (back_steps ss)

  back : (r : Run Reg) → outside (restored_by (isolated_frame names name) p) None r ≡ run_given_back p
      (outside (restored_by (isolated_frame names name) (emptied fresh o)) None r)
  back r =
      ap (λ ss. record {
        steps = ss;
        refusal = option_map (refused_through None) r.refusal;
        view = ending (restored_by (isolated_frame names name) p) r.view;
      }) (back_steps r.steps)
      ∙ ap (λ u. record {
        steps = map (step_given_back p) (map (step_outside
            (restored_by (isolated_frame names name) (emptied fresh o)) None) r.steps);
        refusal = option_map (refused_through None) r.refusal;
        view = u;
      }) (back_view r.view)

begun_same : {Reg : Type 0} (fresh : Reg) (names : Names) (name : Option (List ℕ)) (o p : View Reg) → o.depth ≡ p.depth
    → o.lenient ≡ p.lenient → o.index ≡ p.index → o.name ≡ p.name → begin_isolated fresh names name o ≡ begin_isolated fresh names name p
begun_same fresh names name o p d l i n =
    ap (λ x. begin_isolated fresh names name (record o { depth = x })) d
    ∙ ap (λ x. begin_isolated fresh names name (record o { depth = p.depth; lenient = x })) l
    ∙ ap (λ x. begin_isolated fresh names name (record o { depth = p.depth; lenient = p.lenient; index = x })) i
    ∙ ap (λ x. begin_isolated fresh names name (record o { depth = p.depth; lenient = p.lenient; index = p.index; name = x })) n

-- the outcome is that of a run over the outside, and also that of its run over the emptied outside, given back
pub record IsolatedWithin {Reg : Type 0} (fresh : Reg) (action : Action Reg) (outside : View Reg) (before after : Output) (left : View Reg)
    (answer : Result (Unit {0}) Error) : Type 0 where
  pub renders : RendersWithin (action outside) outside before after left answer
  pub isolated : RendersWithin (run_given_back outside (action (emptied fresh outside))) outside before after left answer

module _ {Reg F T P B Q : Type 0} (s : Setting Reg F T P B Q) where
  same_run : (names : Names) (name : Option (List ℕ)) (ns : Nodes F T B) (o p : View Reg) → o.depth ≡ p.depth → o.lenient ≡ p.lenient
      → o.index ≡ p.index → o.name ≡ p.name
      → isolated_run s names name ns p ≡ run_given_back p (isolated_run s names name ns (emptied s.fresh o))
  unfolding under
  same_run names name ns o p d l i n =
      ap (λ u. outside (restored_by (isolated_frame names name) p) None (nodes_run s u.depth ns u))
      (sym (begun_same s.fresh names name o p d l i n))
      ∙ back s.fresh names name o p n (nodes_run s o.depth ns (begin_isolated s.fresh names name o))

  pub from_outside : IsolatedFromOutside s
  from_outside names name ns outside = same_run names name ns outside outside refl refl refl refl

  pub isolated_agree : IsolatedOutsidesAgree s
  isolated_agree names name ns o p d l i n = record {
    run = isolated_run s names name ns (emptied s.fresh o);
    over_one = from_outside names name ns o;
    over_other = same_run names name ns o p d l i n;
  }

  module _ (names : Names) (name : Option (List ℕ)) (ns : Nodes F T B) where
    -- what renders the run over the outside renders that over the emptied outside
    renders_isolated : (v x : View Reg) (b a : Output) (answer : Result (Unit {0}) Error)
        → RendersWithin (isolated_run s names name ns v) v b a x answer
        → IsolatedWithin s.fresh (isolated_run s names name ns) v b a x answer
    renders_isolated v x b a answer r =
        record { renders = r; isolated = subst (λ q. RendersWithin q v b a x answer) (from_outside names name ns v) r }

    pub isolated_memory : (v : View Reg) (b : Output) (e : Error) → told e ≡ None
        → IsolatedWithin s.fresh (isolated_run s names name ns) v b b v (Err e)
    isolated_memory v b e h = renders_isolated v v b b (Err e) (renders_memory (isolated_run s names name ns v) v b e h)

    -- the name may be given as an owned text
    pub isolated_renders : (own : Option (List ℕ)) (v v1 w x : View Reg) (rs rs1 rs2 rs3 : List (Restore Reg)) (b a : Output)
        (answer : Result (Unit {0}) Error)
        → own ≡ name → v1 ≡ beginning s.fresh (isolated_frame names own) v → rs1 ≡ restored_by (isolated_frame names own) v ∷ rs → rs2 ≡ rs1
        → EndsFirst rs2 w rs3 x → RendersWithin (template_run s ns v1) v1 b a w answer
        → IsolatedWithin s.fresh (isolated_run s names name ns) v b a x answer
    isolated_renders own v v1 w x rs rs1 rs2 rs3 b a answer e h i j k r =
        renders_isolated v x b a answer (subst (λ n. RendersWithin (isolated_run s names n ns v) v b a x answer) e
        (renders_framed s.fresh (isolated_frame names own) None (template_run s ns) v v1 w x rs rs1 rs2 rs3 b a answer answer h i j k
        (becomes_itself answer) r))

-- an isolated frame gives all but index variables back when it ends
module _ {Reg : Type 0} where
  pub kept_still : (v x : View Reg) → x ≡ v → OnlyIndexChanges v x
  kept_still v x e = e ∙ ap (λ y. record v { index = y.index }) (sym e)

  kept_ended : (v w : View Reg) → SameFrames v (ending (restore_isolated v.locals v.globals v.base v.shown v.floor v.name v.interrupt
      v.register) w)
      → OnlyIndexChanges v (ending (restore_isolated v.locals v.globals v.base v.shown v.floor v.name v.interrupt v.register) w)
  kept_ended v w h = h

  pub kept_after : (v w x : View Reg) (rs rs1 rs2 rs3 : List (Restore Reg))
      → rs1 ≡ restore_isolated v.locals v.globals v.base v.shown v.floor v.name v.interrupt v.register ∷ rs → rs2 ≡ rs1
      → EndsFirst rs2 w rs3 x → SameFrames v x → OnlyIndexChanges v x
  kept_after v w x rs rs1 rs2 rs3 i j k h =
      let r : Restore Reg = restore_isolated v.locals v.globals v.base v.shown v.floor v.name v.interrupt v.register in
      let left : x ≡ ending r w = k.is_ended ∙ ap (λ y. ending y w) (first_is k.restores r rs3 rs (sym k.was_first ∙ j ∙ i)) in
      subst (λ y. OnlyIndexChanges v y) (sym left) (kept_ended v w (subst (λ y. SameFrames v y) left h))
