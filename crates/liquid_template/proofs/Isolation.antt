-- Under hidden globals a run is the same, except that the globals left are the old ones overlaid.
use Rattle.std.proofs.Common.{◌≡◌, ℕ, zero, suc, List, [], ◌∷◌, ◌++◌, map, Bool, true, false, cond, is_some, Option, Some, None, Result}
use Rattle.std.proofs.Common.{Ok, Err, refl, sym, ap, ◌∙◌, option_map}
use Rattle.std.specs.Prelude.{unwrap_or}
use Rattle.std.specs.FinMap.{empty}
use Rattle.liquid_error.specs.meaning.Refusal.{Refusal}
use Rattle.liquid_value.specs.meaning.Tree.{Tree}
use Rattle.liquid_runtime.specs.meaning.Maps.{Names, over}
use Rattle.liquid_runtime.proofs.MapLaws.{over-over, empty-over}
use Rattle.liquid_runtime.specs.meaning.View.{View, Floor}
use Rattle.liquid_runtime.specs.declared.registers.Interrupt.{Interrupt}
use Rattle.liquid_runtime.specs.meaning.NamesSeen.{upper_names}
use Rattle.liquid_runtime.specs.meaning.Written.{with_written}
use Rattle.liquid_runtime.specs.meaning.Erased.{Erased, erase, without_names}
use Rattle.liquid_runtime.specs.meaning.Emptied.{emptied}
use Rattle.liquid_runtime.specs.meaning.Frames.{FrameShape, no_frame, stack_frame, sandboxed_frame, isolated_frame, global_frame, Restore}
use Rattle.liquid_runtime.specs.meaning.Frames.{restore_nothing, restore_global, restore_isolated, begin_sandboxed, begin_isolated}
use Rattle.liquid_runtime.specs.meaning.Frames.{beginning, restored_by, ending}
use Rattle.liquid_plugins.specs.meaning.Evaluation.{evaluate}
use Rattle.liquid_plugins.specs.meaning.Chain.{ChainShape, FilterMeaning, chain_value, filtered}
use Rattle.liquid_plugins.specs.meaning.Turns.{Answered, TurnShape, text_turn, body_turn, partial_turn, capture_turn, end_turn, NodeMeaning}
use Rattle.liquid_plugins.specs.meaning.Discreet.{hiding, overlaid, HidesGlobals, Discreet}
use Rattle.liquid_plugins.proofs.ErasedLemmas.{evaluate_erased}
use Rattle.liquid_error.specs.meaning.Refusal.{ok_then}
use Rattle.liquid_plugins.specs.meaning.Nodes.{NodeShape, text_node, chain_node, tag_node, block_node, Nodes, no_nodes, node, Parts}
use Rattle.liquid_plugins.specs.meaning.Nodes.{no_parts, part}
use Rattle.liquid_template.specs.meaning.Run.{Step, Run, Action, pieces, written}
use Rattle.liquid_template.specs.meaning.Actions.{traced, refused_through, done, refuses, writes, writes_value, asks, goes_on, and_then}
use Rattle.liquid_template.specs.meaning.Actions.{unless_interrupted, step_outside, outside, under, silent_step, silent, part_at}
use Rattle.liquid_template.specs.meaning.Nodes.{Setting, performed, answered, turns, started, played, run_node, run_nodes, run_parts}
use Rattle.liquid_template.specs.meaning.Partials.{partials_at, sought, read_as, no_store, too_deep}
use Rattle.liquid_template.specs.meaning.Rendering.{nodes_run, sandboxed_run}
use Rattle.liquid_template.specs.meaning.Sandboxed.{HasGlobals, over_outside, step_over_outside, run_over_outside}
use Rattle.liquid_template.specs.laws.Isolation.{Isolated, OutsidesAgree}

-- there are globals, and they are hidden
pub record Hidden {Reg : Type 0} (v : View Reg) : Type 0 where
  pub shown : v.shown ≡ false
  pub names : Names
  pub there : v.globals ≡ Some names

module _ {Reg : Type 0} (g : Names) where
  abbrev pub cover : View Reg → View Reg
  cover v = record v { globals = Some (over (unwrap_or v.globals empty) g) }

  abbrev pub cover_step : Step Reg → Step Reg
  cover_step s = record s { at = cover s.at }

  abbrev pub covered : Run Reg → Run Reg
  covered r = record { steps = map cover_step r.steps; refusal = r.refusal; view = cover r.view }

  -- the action does not see what is hidden, and leaves it hidden
  pub record Apart (k : Action Reg) : Type 0 where
    pub same : (v : View Reg) → Hidden v → k (cover v) ≡ covered (k v)
    pub hidden : (v : View Reg) → Hidden v → Hidden (k v).view

  apart_done : Apart done
  apart_done = record { same = λ v h. refl; hidden = λ v h. h }

  apart_refuses : (refusal : Refusal) → Apart (refuses refusal)
  apart_refuses refusal = record { same = λ v h. refl; hidden = λ v h. h }

  apart_writes : (piece : List ℕ) → Apart (writes piece)
  apart_writes piece = record { same = λ v h. refl; hidden = λ v h. h }

  apart_value : (r : Result Tree Refusal) → Apart (writes_value r)
  apart_value (Ok t) = record { same = λ v h. refl; hidden = λ v h. h }
  apart_value (Err refusal) = apart_refuses refusal

  map-append : (f : Step Reg → Step Reg) (a b : List (Step Reg)) → map f (a ++ b) ≡ map f a ++ map f b
  map-append f [] b = refl
  map-append f (s ∷ a) b = ap (λ x. f s ∷ x) (map-append f a b)

  covered_goes_on : (f : Option Refusal) (r : Run Reg) (k : Action Reg) → Apart k → Hidden r.view
      → goes_on f (covered r) k ≡ covered (goes_on f r k)
  covered_goes_on (Some refusal) r k i h = refl
  covered_goes_on None r k i h =
      ap (λ p. record { steps = map cover_step r.steps ++ p.steps; refusal = p.refusal; view = p.view }) (i.same r.view h)
      ∙ ap (λ ss. record { steps = ss; refusal = (k r.view).refusal; view = cover (k r.view).view })
      (sym (map-append cover_step r.steps (k r.view).steps))

  hidden_goes_on : (f : Option Refusal) (r : Run Reg) (k : Action Reg) → Apart k → Hidden r.view → Hidden (goes_on f r k).view
  hidden_goes_on (Some refusal) r k i h = h
  hidden_goes_on None r k i h = i.hidden r.view h

  apart_then : (a k : Action Reg) → Apart a → Apart k → Apart (λ v. and_then (a v) k)
  apart_then a k i j = record {
    same = λ v h. ap (λ r. and_then r k) (i.same v h) ∙ covered_goes_on (a v).refusal (a v) k j (i.hidden v h);
    hidden = λ v h. hidden_goes_on (a v).refusal (a v) k j (i.hidden v h);
  }

  -- a run that writes nothing, and what follows its text
  silent_steps : (ss : List (Step Reg)) → map silent_step (map cover_step ss) ≡ map cover_step (map silent_step ss)
  silent_steps [] = refl
  silent_steps (x ∷ ss) = ap (λ ys. silent_step (cover_step x) ∷ ys) (silent_steps ss)

  silent_covered : (r : Run Reg) → silent (covered r) ≡ covered (silent r)
  silent_covered r = ap (λ ss. record { steps = ss; refusal = r.refusal; view = cover r.view }) (silent_steps r.steps)

  pieces_covered : (ss : List (Step Reg)) → pieces (map cover_step ss) ≡ pieces ss
  pieces_covered [] = refl
  pieces_covered (x ∷ ss) = ap (λ t. x.piece ++ t) (pieces_covered ss)

  apart_captured : (a : Action Reg) (k : List ℕ → Action Reg) → Apart a → ((text : List ℕ) → Apart (k text))
      → Apart (λ v. and_then (silent (a v)) (k (written (a v))))
  apart_captured a k i j = record {
    same = λ v h. ap (λ r. and_then (silent r) (k (written r))) (i.same v h)
        ∙ ap (λ text. and_then (silent (covered (a v))) (k text)) (pieces_covered (a v).steps)
        ∙ ap (λ r. and_then r (k (written (a v)))) (silent_covered (a v))
        ∙ covered_goes_on (a v).refusal (silent (a v)) (k (written (a v))) (j (written (a v))) (i.hidden v h);
    hidden = λ v h. hidden_goes_on (a v).refusal (silent (a v)) (k (written (a v))) (j (written (a v))) (i.hidden v h);
  }

  apart_asks : Apart asks
  apart_asks = record { same = λ v h. refl; hidden = λ v h. h }

  outside_steps : (r s : Restore Reg) (trace : Option (List ℕ)) → ((v : View Reg) → ending r (cover v) ≡ cover (ending s v))
      → (ss : List (Step Reg)) → map (step_outside r trace) (map cover_step ss) ≡ map cover_step (map (step_outside s trace) ss)
  outside_steps r s trace e [] = refl
  outside_steps r s trace e (x ∷ ss) =
      ap (λ y. record { piece = x.piece; checkpoint = x.checkpoint; traces = traced trace x.traces; at = y }
      ∷ map (step_outside r trace) (map cover_step ss)) (e x.at)
      ∙ ap (λ ys. record { piece = x.piece; checkpoint = x.checkpoint; traces = traced trace x.traces; at = cover (ending s x.at) } ∷ ys)
      (outside_steps r s trace e ss)

  outside_covered : (r s : Restore Reg) (trace : Option (List ℕ)) → ((v : View Reg) → ending r (cover v) ≡ cover (ending s v))
      → (o : Run Reg) → outside r trace (covered o) ≡ covered (outside s trace o)
  outside_covered r s trace e o =
      ap (λ ss. record { steps = ss; refusal = option_map (refused_through trace) o.refusal; view = ending r (cover o.view) })
      (outside_steps r s trace e o.steps)
      ∙ ap (λ u. record {
        steps = map cover_step (map (step_outside s trace) o.steps);
        refusal = option_map (refused_through trace) o.refusal;
        view = u;
      }) (e o.view)

  module _ (fresh : Reg) (trace : Option (List ℕ)) where
    apart_none : (k : Action Reg) → Apart k → Apart (under fresh no_frame trace k)
    unfolding under
    apart_none k i = record {
      same =
          λ v h. ap (outside restore_nothing trace) (i.same v h) ∙ outside_covered restore_nothing restore_nothing trace (λ u. refl) (k v);
      hidden = λ v h. i.hidden v h;
    }

    apart_stack : (d : Names) (n : Option (List ℕ)) (k : Action Reg) → Apart k → Apart (under fresh (stack_frame d n) trace k)
    unfolding under
    apart_stack d n k i = record {
      same =
          λ v h. ap (outside (restored_by (stack_frame d n) v) trace) (i.same (beginning fresh (stack_frame d n) v)
          (record { shown = h.shown; names = h.names; there = h.there }))
          ∙ outside_covered (restored_by (stack_frame d n) v) (restored_by (stack_frame d n) v) trace (λ u. refl)
          (k (beginning fresh (stack_frame d n) v));
      hidden =
          λ v h. let i' = i.hidden (beginning fresh (stack_frame d n) v) (record { shown = h.shown; names = h.names; there = h.there }) in
          record { shown = i'.shown; names = i'.names; there = i'.there };
    }

    apart_sandboxed : (d : Names) (n : Option (List ℕ)) (k : Action Reg) → Apart k → Apart (under fresh (sandboxed_frame d n) trace k)
    unfolding under
    apart_sandboxed d n k i = record {
      same =
          λ v h. ap (outside (restored_by (sandboxed_frame d n) v) trace)
          (i.same (beginning fresh (sandboxed_frame d n) v) (record { shown = refl; names = h.names; there = h.there }))
          ∙ outside_covered (restored_by (sandboxed_frame d n) v) (restored_by (sandboxed_frame d n) v) trace (λ u. refl)
          (k (beginning fresh (sandboxed_frame d n) v));
      hidden =
          λ v h. let i' = i.hidden (beginning fresh (sandboxed_frame d n) v) (record { shown = refl; names = h.names; there = h.there }) in
          record { shown = h.shown; names = i'.names; there = i'.there };
    }

    upper_hidden : (v : View Reg) (shown : Bool) → v.shown ≡ shown → shown ≡ false → upper_names (cover v) ≡ upper_names v
    upper_hidden v true e h = cc
    upper_hidden v false e h =
        ap (λ x. over v.locals (over (cond x (over (unwrap_or v.globals empty) g) empty) v.base)) e
        ∙ sym (ap (λ x. over v.locals (over (cond x (unwrap_or v.globals empty) empty) v.base)) e)

    global_steps : (l : Names) (s : Option Names) (b : Names) (x : Bool) (ss : List (Step Reg))
        → map (step_outside (restore_global l (Some (over (unwrap_or s empty) g)) b x) trace) ss ≡ map cover_step
        (map (step_outside (restore_global l s b x) trace) ss)
    global_steps l s b x [] = refl
    global_steps l s b x (y ∷ ss) =
        ap (λ ys. step_outside (restore_global l (Some (over (unwrap_or s empty) g)) b x) trace y ∷ ys) (global_steps l s b x ss)

    -- inside a global frame nothing is hidden, and when it ends it gives back what was there
    apart_global : (k : Action Reg) → Apart (under fresh global_frame trace k)
    unfolding under
    apart_global k = record {
      same = λ v h.
          ap (λ u. outside (restored_by global_frame (cover v)) trace (k
          (record v { locals = empty; globals = Some empty; base = u; shown = true }))) (upper_hidden v v.shown refl h.shown)
          ∙ ap (λ ss. record {
            steps = ss;
            refusal = option_map (refused_through trace) (k (beginning fresh global_frame v)).refusal;
            view = ending (restored_by global_frame (cover v)) (k (beginning fresh global_frame v)).view;
          })
          (global_steps v.locals v.globals v.base v.shown (k (beginning fresh global_frame v)).steps);
      hidden = λ v h. record { shown = h.shown; names = h.names; there = h.there };
    }

    isolated_steps : (l : Names) (s : Option Names) (b : Names) (x : Bool) (f : Floor) (n : Option (List ℕ)) (i : Option Interrupt)
        (r : Reg) (ss : List (Step Reg))
        → map (step_outside (restore_isolated l (Some (over (unwrap_or s empty) g)) b x f n i r) trace) ss ≡ map cover_step
        (map (step_outside (restore_isolated l s b x f n i r) trace) ss)
    isolated_steps l s b x f n i r [] = refl
    isolated_steps l s b x f n i r (y ∷ ss) =
        ap (λ ys. step_outside (restore_isolated l (Some (over (unwrap_or s empty) g)) b x f n i r) trace y ∷ ys)
        (isolated_steps l s b x f n i r ss)

    -- inside an isolated frame nothing of the outside is left, and when it ends it gives back what was there
    apart_isolated : (d : Names) (n : Option (List ℕ)) (k : Action Reg) → Apart (under fresh (isolated_frame d n) trace k)
    unfolding under
    apart_isolated d n k = record {
      same = λ v h.
          let inner = k (begin_isolated fresh d n v) in
          ap (λ ss. record {
            steps = ss;
            refusal = option_map (refused_through trace) inner.refusal;
            view = ending (restored_by (isolated_frame d n) (cover v)) inner.view;
          })
          (isolated_steps v.locals v.globals v.base v.shown v.floor v.name v.interrupt v.register inner.steps);
      hidden = λ v h. record { shown = h.shown; names = h.names; there = h.there };
    }

    apart_under : (frame : FrameShape) (k : Action Reg) → Apart k → Apart (under fresh frame trace k)
    apart_under no_frame k i = apart_none k i
    apart_under (stack_frame d n) k i = apart_stack d n k i
    apart_under (sandboxed_frame d n) k i = apart_sandboxed d n k i
    apart_under (isolated_frame d n) k i = apart_isolated d n k
    apart_under global_frame k i = apart_global k

  -- a hidden view, as the law of discreet nodes has it
  is_hiding : (v : View Reg) (h : Hidden v) → v ≡ hiding h.names v
  is_hiding v h = ap (λ m. record v { globals = m }) h.there ∙ ap (λ b. record v { globals = Some h.names; shown = b }) h.shown

  cover_is_hiding : (v : View Reg) (h : Hidden v) → cover v ≡ hiding (over h.names g) v
  cover_is_hiding v h =
      ap (λ m. record v { globals = Some (over (unwrap_or m empty) g) }) h.there
      ∙ ap (λ b. record v { globals = Some (over h.names g); shown = b }) h.shown

  module _ {A P : Type 0} (tells : View Reg → Answered A P Reg) (law : HidesGlobals tells) where
    told_hidden : (v : View Reg) → Hidden v → tells (cover v) ≡ overlaid g (tells v)
    told_hidden v h =
        ap tells (cover_is_hiding v h)
        ∙ law (over h.names g) v
        ∙ ap (λ m. record (tells (hiding empty v)) { written = record (tells (hiding empty v)).written { globals = Some m } })
        (sym (over-over (unwrap_or (tells (hiding empty v)).written.globals empty) h.names g))
        ∙ ap (overlaid g) (sym (law h.names v))
        ∙ ap (λ u. overlaid g (tells u)) (sym (is_hiding v h))

    told_there : (v : View Reg) (h : Hidden v) → (tells v).written.globals ≡ Some
        (over (unwrap_or (tells (hiding empty v)).written.globals empty) h.names)
    told_there v h = ap (λ u. (tells u).written.globals) (is_hiding v h) ∙ ap (λ t. t.written.globals) (law h.names v)

    told_stays_hidden : (v : View Reg) (h : Hidden v) → Hidden (with_written (tells v).written v)
    told_stays_hidden v h =
        record { shown = h.shown; names = over (unwrap_or (tells (hiding empty v)).written.globals empty) h.names; there = told_there v h }

  erase_hidden : (v : View Reg) → Hidden v → erase (cover v) ≡ erase v
  erase_hidden v h =
      let seen : Option Names → Bool → Erased = λ m b. record (erase v) { globals = cond b m (without_names m) } in
      ap (seen (Some (over (unwrap_or v.globals empty) g))) h.shown ∙ sym (ap (seen v.globals) h.shown ∙ ap (λ m. seen m false) h.there)

  chain_hidden : {F : Type 0} (m : FilterMeaning F) (c : ChainShape F) (v : View Reg) → Hidden v
      → chain_value m c (cover v) ≡ chain_value m c v
  chain_hidden m c v h =
      ap (λ r. ok_then r (filtered m (erase (cover v)) c.filters))
      (sym (evaluate_erased (cover v) c.entry) ∙ ap (λ u. evaluate u c.entry) (erase_hidden v h) ∙ evaluate_erased v c.entry)
      ∙ ap (λ u. ok_then (evaluate v c.entry) (filtered m u c.filters)) (erase_hidden v h)

  apart_chain : {F : Type 0} (m : FilterMeaning F) (c : ChainShape F) → Apart (λ v. writes_value (chain_value m c v) v)
  apart_chain m c = record {
    same = λ v h. ap (λ r. writes_value r (cover v)) (chain_hidden m c v h) ∙ (apart_value (chain_value m c v)).same v h;
    hidden = λ v h. (apart_value (chain_value m c v)).hidden v h;
  }

  apart_unless_cases : (b : Bool) (k : Action Reg) → Apart k → Apart (λ v. cond b (done v) (k v))
  apart_unless_cases true k i = apart_done
  apart_unless_cases false k i = i

  apart_unless : (k : Action Reg) → Apart k → Apart (unless_interrupted k)
  apart_unless k i = record {
    same = λ v h. (apart_unless_cases (is_some v.interrupt) k i).same v h;
    hidden = λ v h. (apart_unless_cases (is_some v.interrupt) k i).hidden v h;
  }

  module _ {F T P B Q : Type 0} (s : Setting Reg F T P B Q) (partials : List ℕ → Action Reg)
      (ok : (name : List ℕ) → Apart (partials name)) where
    module _ (parts : List (Action Reg)) (each : (place : ℕ) → Apart (part_at parts place)) where
      apart_performed : (a : TurnShape) → Apart (performed s partials parts a)
      unfolding performed
      apart_performed (text_turn piece) = apart_writes piece
      apart_performed (body_turn place frame trace) = apart_under s.fresh trace frame (part_at parts place) (each place)
      apart_performed (partial_turn name frame trace) = apart_under s.fresh trace frame (partials name) (ok name)
      apart_performed (capture_turn place frame trace) = apart_under s.fresh trace frame (part_at parts place) (each place)
      apart_performed end_turn = apart_done

      module _ {N R : Type 0} (m : NodeMeaning N R Reg) (law : Discreet m) (n : N) where
        apart_answered : (a : Result TurnShape Refusal) (q : R) (rest : R → Action Reg) → ((p : R) → Apart (rest p))
            → Apart (answered s partials m n parts a q rest)
        apart_answered (Err refusal) q rest i = apart_refuses refusal
        apart_answered (Ok (text_turn piece)) q rest i =
            apart_then (performed s partials parts (text_turn piece)) (rest q) (apart_performed (text_turn piece)) (i q)
        apart_answered (Ok (body_turn place frame trace)) q rest i =
            apart_then (performed s partials parts (body_turn place frame trace)) (rest q) (apart_performed (body_turn place frame trace))
            (i q)
        apart_answered (Ok (partial_turn name frame trace)) q rest i =
            apart_then (performed s partials parts (partial_turn name frame trace)) (rest q)
            (apart_performed (partial_turn name frame trace)) (i q)
        apart_answered (Ok (capture_turn place frame trace)) q rest i =
            apart_captured (performed s partials parts (capture_turn place frame trace)) (λ text. rest (m.catches n q text))
            (apart_performed (capture_turn place frame trace)) (λ text. i (m.catches n q text))
        apart_answered (Ok end_turn) q rest i = apart_done

        apart_turns : (left : ℕ) (progress : R) → Apart (turns s partials m n parts left progress)
        unfolding turns
        apart_turns zero progress = apart_done
        apart_turns (suc left) progress =
            apart_then asks (λ w. answered s partials m n parts (m.takes n progress w).answer (m.takes n progress w).progress
            (turns s partials m n parts left) (with_written (m.takes n progress w).written w)) apart_asks (record {
              same =
                  λ v h. ap (λ t. answered s partials m n parts t.answer t.progress (turns s partials m n parts left)
                  (with_written t.written (cover v))) (told_hidden (m.takes n progress) (law.turn n progress) v h)
                  ∙ (apart_answered (m.takes n progress v).answer (m.takes n progress v).progress (turns s partials m n parts left)
                  (apart_turns left)).same (with_written (m.takes n progress v).written v)
                  (told_stays_hidden (m.takes n progress) (law.turn n progress) v h);
              hidden =
                  λ v h. (apart_answered (m.takes n progress v).answer (m.takes n progress v).progress (turns s partials m n parts left)
                  (apart_turns left)).hidden (with_written (m.takes n progress v).written v)
                  (told_stays_hidden (m.takes n progress) (law.turn n progress) v h);
            })

        apart_started : (a : Result R Refusal) → Apart (started s partials m n parts a)
        apart_started (Err refusal) = apart_refuses refusal
        apart_started (Ok progress) = apart_turns (m.count progress) progress

        apart_played : Apart (played s partials m n parts)
        unfolding played
        apart_played = record {
          same =
              λ v h. ap (λ t. started s partials m n parts t.answer (with_written t.written (cover v)))
              (told_hidden (m.starts n) (law.start n) v h)
              ∙ (apart_started (m.starts n v).answer).same (with_written (m.starts n v).written v)
              (told_stays_hidden (m.starts n) (law.start n) v h);
          hidden =
              λ v h. (apart_started (m.starts n v).answer).hidden (with_written (m.starts n v).written v)
              (told_stays_hidden (m.starts n) (law.start n) v h);
        }

    apart_nothing : (place : ℕ) → Apart (part_at [] place)
    apart_nothing place = apart_done

    module _ (tl : Discreet s.tags) (bl : Discreet s.blocks) where
      mutual
        unfolding run_node run_nodes run_parts

        apart_node : (n : NodeShape F T B) → Apart (run_node s partials n)
        apart_node (text_node piece) = apart_writes piece
        apart_node (chain_node c) = apart_chain s.filters c
        apart_node (tag_node x) = apart_played [] apart_nothing s.tags tl x
        apart_node (block_node x ps) = apart_played (run_parts s partials ps) (apart_parts ps) s.blocks bl x

        apart_nodes : (ns : Nodes F T B) → Apart (run_nodes s partials ns)
        apart_nodes no_nodes = apart_done
        apart_nodes (node n ns) =
            apart_then (run_node s partials n) (unless_interrupted (run_nodes s partials ns)) (apart_node n)
            (apart_unless (run_nodes s partials ns) (apart_nodes ns))

        apart_parts : (ps : Parts F T B) (place : ℕ) → Apart (part_at (run_parts s partials ps) place)
        apart_parts no_parts place = apart_done
        apart_parts (part ns ps) zero = apart_nodes ns
        apart_parts (part ns ps) (suc place) = apart_parts ps place

  module _ {F T P B Q : Type 0} (s : Setting Reg F T P B Q) (tl : Discreet s.tags) (bl : Discreet s.blocks) where
    apart_read : (r : Result (Nodes F T B) Refusal) (k : Nodes F T B → Action Reg) → ((ns : Nodes F T B) → Apart (k ns))
        → Apart (read_as r k)
    apart_read (Err refusal) k i = apart_refuses refusal
    apart_read (Ok ns) k i = i ns

    apart_sought : (finds : Option (List ℕ → Result (Nodes F T B) Refusal)) (name : List ℕ) (k : Nodes F T B → Action Reg)
        → ((ns : Nodes F T B) → Apart (k ns)) → Apart (sought finds name k)
    apart_sought None name k i = apart_refuses (no_store name)
    apart_sought (Some finds) name k i = apart_read (finds name) k i

    apart_partials : (depth : ℕ) (name : List ℕ) → Apart (partials_at s depth name)
    unfolding partials_at
    apart_partials zero name = apart_refuses too_deep
    apart_partials (suc depth) name =
        apart_sought s.finds name (run_nodes s (partials_at s depth)) (apart_nodes s (partials_at s depth) (apart_partials depth) tl bl)

    pub apart_template : (depth : ℕ) (ns : Nodes F T B) → Apart (nodes_run s depth ns)
    apart_template depth ns = apart_nodes s (partials_at s depth) (apart_partials depth) tl bl ns

module _ {Reg : Type 0} (assigned : Names) (o : View Reg) (e : o.globals ≡ Some assigned) (fresh : Reg) (names : Names)
    (name : Option (List ℕ)) where
  -- what is left of a covered view when the sandboxed frame ends
  back_view : (v : View Reg) → ending (restored_by (sandboxed_frame names name) o) (cover assigned v) ≡ over_outside o
      (ending (restored_by (sandboxed_frame names name) (emptied fresh o)) v)
  back_view v =
      ap (λ m. record (ending (restored_by (sandboxed_frame names name) o) v) { globals = option_map (over (unwrap_or v.globals empty)) m })
      (sym e)

  back_steps : (ss : List (Step Reg)) → map (step_outside (restored_by (sandboxed_frame names name) o) None)
      (map (cover_step assigned) ss) ≡ map (step_over_outside o) (map
      (step_outside (restored_by (sandboxed_frame names name) (emptied fresh o)) None) ss)
  back_steps [] = refl
  back_steps (x ∷ ss) =
      ap (λ y. record { piece = x.piece; checkpoint = x.checkpoint; traces = x.traces; at = y }
      ∷ map (step_outside (restored_by (sandboxed_frame names name) o) None) (map (cover_step assigned) ss)) (back_view x.at)
      ∙ ap (λ ys. step_over_outside o (step_outside (restored_by (sandboxed_frame names name) (emptied fresh o)) None x) ∷ ys)
      (back_steps ss)

  back : (r : Run Reg) → outside (restored_by (sandboxed_frame names name) o) None (covered assigned r) ≡ run_over_outside o
      (outside (restored_by (sandboxed_frame names name) (emptied fresh o)) None r)
  back r =
      ap (λ ss. record {
        steps = ss;
        refusal = option_map (refused_through None) r.refusal;
        view = ending (restored_by (sandboxed_frame names name) o) (cover assigned r.view);
      }) (back_steps r.steps)
      ∙ ap (λ u. record {
        steps = map (step_over_outside o) (map (step_outside
            (restored_by (sandboxed_frame names name) (emptied fresh o)) None) r.steps);
        refusal = option_map (refused_through None) r.refusal;
        view = u;
      }) (back_view r.view)

  begins_covered : begin_sandboxed fresh names name o ≡ cover assigned (begin_sandboxed fresh names name (emptied fresh o))
  begins_covered = ap (λ m. record (begin_sandboxed fresh names name o) { globals = m })
      (e ∙ ap Some (sym (empty-over assigned)) ∙ ap (λ m. Some (over (unwrap_or (without_names m) empty) assigned)) (sym e))

module _ {Reg F T P B Q : Type 0} (s : Setting Reg F T P B Q) (tl : Discreet s.tags) (bl : Discreet s.blocks) (names : Names)
    (name : Option (List ℕ)) (ns : Nodes F T B) where
  isolated_from : (o : View Reg) (assigned : Names) → o.globals ≡ Some assigned
      → sandboxed_run s names name ns o ≡ run_over_outside o (sandboxed_run s names name ns (emptied s.fresh o))
  unfolding under
  isolated_from o assigned e =
      let b = begin_sandboxed s.fresh names name (emptied s.fresh o) in
      ap (λ u. outside (restored_by (sandboxed_frame names name) o) None (nodes_run s o.depth ns u))
      (begins_covered assigned o e s.fresh names name)
      ∙ ap (outside (restored_by (sandboxed_frame names name) o) None)
      ((apart_template assigned s tl bl o.depth ns).same b (record { shown = refl; names = empty; there = ap without_names e }))
      ∙ back assigned o e s.fresh names name (nodes_run s o.depth ns b)

  isolated_where : (o : View Reg) (m : Option Names) → o.globals ≡ m → is_some m ≡ true
      → sandboxed_run s names name ns o ≡ run_over_outside o (sandboxed_run s names name ns (emptied s.fresh o))
  isolated_where o None e there = cc
  isolated_where o (Some assigned) e there = isolated_from o assigned e

-- discreet nodes are isolated
pub isolated : {Reg F T P B Q : Type 0} (s : Setting Reg F T P B Q) → Isolated s
isolated s tl bl names name ns outside there = isolated_where s tl bl names name ns outside outside.globals refl there

emptied_globals : (m n : Option Names) → is_some m ≡ true → is_some n ≡ true → without_names m ≡ without_names n
emptied_globals None n i j = cc
emptied_globals (Some g) None i j = cc
emptied_globals (Some g) (Some h) i j = refl

emptied_same : {Reg : Type 0} (fresh : Reg) (o p : View Reg) → HasGlobals o → HasGlobals p → o.depth ≡ p.depth → o.lenient ≡ p.lenient
    → o.index ≡ p.index → o.name ≡ p.name → emptied fresh o ≡ emptied fresh p
emptied_same fresh o p a b d l i n =
    ap (λ x. record (emptied fresh o) { globals = x }) (emptied_globals o.globals p.globals a b)
    ∙ ap (λ x. record (emptied fresh o) { globals = without_names p.globals; depth = x }) d
    ∙ ap (λ x. record (emptied fresh o) { globals = without_names p.globals; depth = p.depth; lenient = x }) l
    ∙ ap (λ x. record (emptied fresh o) { globals = without_names p.globals; depth = p.depth; lenient = p.lenient; index = x }) i
    ∙ ap (λ x. record (emptied fresh o) {
      globals = without_names p.globals;
      depth = p.depth;
      lenient = p.lenient;
      index = p.index;
      name = x;
    }) n

pub outsides_agree : {Reg F T P B Q : Type 0} (s : Setting Reg F T P B Q) → OutsidesAgree s
outsides_agree s tl bl names name ns o p a b d l i n = record {
  run = sandboxed_run s names name ns (emptied s.fresh o);
  over_one = isolated s tl bl names name ns o a;
  over_other =
      isolated s tl bl names name ns p b ∙ ap (λ e. run_over_outside p (sandboxed_run s names name ns e))
      (sym (emptied_same s.fresh o p a b d l i n));
}
