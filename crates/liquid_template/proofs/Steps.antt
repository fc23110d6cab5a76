-- The result of each step of the renderer: turns, starts, nodes and lists, over a sink.
use Rattle.std.proofs.Common.{
  ◌≡◌,
  ℕ,
  zero,
  suc,
  List,
  true,
  false,
  cond,
  is_some,
  Option,
  Some,
  None,
  Result,
  Ok,
  Err,
  refl,
  sym,
  ap,
  subst,
  ◌∙◌,
}
use Rattle.std.specs.Prelude.{IfSome, OnSome}
use Rattle.liquid_error.specs.declared.error.Error.{Error}
use Rattle.liquid_error.specs.meaning.Refusal.{Refusal}
use Rattle.liquid_error.specs.meaning.Told.{told}
use Rattle.liquid_value.specs.meaning.Tree.{Tree}
use Rattle.liquid_value.specs.meaning.Render.{render}
use Rattle.liquid_runtime.specs.meaning.View.{View}
use Rattle.liquid_runtime.specs.meaning.Written.{with_written, SameFrames}
use Rattle.liquid_runtime.specs.meaning.Frames.{FrameShape}
use Rattle.liquid_plugins.specs.meaning.Chain.{ChainShape, chain_value}
use Rattle.liquid_plugins.specs.meaning.Turns.{TurnShape, text_turn, body_turn, partial_turn, capture_turn, end_turn, NodeMeaning}
use Rattle.liquid_plugins.specs.meaning.Nodes.{NodeShape, chain_node, Nodes, no_nodes, node}
use Rattle.liquid_template.specs.meaning.Run.{Run, Action, written}
use Rattle.liquid_template.specs.meaning.Actions.{done, writes_value, asks, and_then, unless_interrupted, silent}
use Rattle.liquid_template.specs.meaning.Nodes.{Setting, performed, answered, turns, started, played, run_node, run_nodes}
use Rattle.liquid_template.specs.meaning.Output.{Output}
use Rattle.liquid_template.specs.meaning.Outcome.{RendersWithin}
use Rattle.liquid_template.specs.steps.PieceOut.{PieceOut}
use Rattle.liquid_template.proofs.Joins.{same_frames_then, renders_then, renders_first, renders_done, renders_refused}
use Rattle.liquid_template.proofs.Putting.{renders_put}

abbrev Answer : Type 0
Answer = Result (Unit {0}) Error

-- a turn after which the others follow with the progress that it leaves
abbrev pub GoesOn : TurnShape → Type 0
GoesOn (text_turn piece) = Unit {0}
GoesOn (body_turn place frame trace) = Unit {0}
GoesOn (partial_turn name frame trace) = Unit {0}
GoesOn (capture_turn place frame trace) = ⊥
GoesOn end_turn = ⊥

if_both : {A C : Refusal → Type 0} {B : Type 0} (t : Option Refusal) → ((r : Refusal) → A r → B → C r) → IfSome t A → OnSome t B
    → IfSome t C
if_both None f a b = tt
if_both (Some r) f a b = f r a b

module _ {Reg : Type 0} where
  -- frames that were the same before stay the same
  pub renders_from : (r : Run Reg) (v w x : View Reg) (b a : Output) (answer : Answer) → SameFrames v w → RendersWithin r w b a x answer
      → RendersWithin r v b a x answer
  renders_from r v w x b a answer s h = record { outcome = h.outcome; frames = same_frames_then v w x s h.frames; pours = h.pours }

module _ {Reg F T P B Q : Type 0} (s : Setting Reg F T P B Q) (partials : List ℕ → Action Reg) where
  module _ {N R : Type 0} (m : NodeMeaning N R Reg) (n : N) (parts : List (Action Reg)) where
    -- a turn after its checkpoint
    abbrev pub taken : ℕ → R → Action Reg
    taken k p =
        λ w. answered s partials m n parts (m.takes n p w).answer (m.takes n p w).progress (turns s partials m n parts k)
        (with_written (m.takes n p w).written w)

    pub asked_first : (k : ℕ) (p : R) (v w : View Reg) (b c a : Output) (u : Unit {0}) (answer : Answer)
        → RendersWithin (asks v) v b c v (Ok u) → RendersWithin (taken k p v) v c a w answer
        → RendersWithin (turns s partials m n parts (suc k) p v) v b a w answer
    unfolding turns
    asked_first k p v w b c a u answer h i = renders_then (asks v) (taken k p) v v w b c a u answer h i

    pub asked_refused : (k : ℕ) (p : R) (v : View Reg) (b c : Output) (e : Error) → RendersWithin (asks v) v b c v (Err e)
        → RendersWithin (turns s partials m n parts (suc k) p v) v b c v (Err e)
    unfolding turns
    asked_refused k p v b c e h = renders_first (asks v) (taken k p) v v b c e h

    answered_more : (a : TurnShape) (q : R) (rest : R → Action Reg) (v : View Reg) → GoesOn a
        → answered s partials m n parts (Ok a) q rest v ≡ and_then (performed s partials parts a v) (rest q)
    answered_more (text_turn piece) q rest v h = refl
    answered_more (body_turn place frame trace) q rest v h = refl
    answered_more (partial_turn name frame trace) q rest v h = refl
    answered_more (capture_turn place frame trace) q rest v h = absurd h
    answered_more end_turn q rest v h = absurd h

    turn_is : (k : ℕ) (p : R) (v v1 : View Reg) (a : Result TurnShape Refusal) → (m.takes n p v).answer ≡ a
        → v1 ≡ with_written (m.takes n p v).written v → taken k p v ≡ answered s partials m n parts a (m.takes n p v).progress
        (turns s partials m n parts k) v1
    turn_is k p v v1 a e h =
        ap (λ x. answered s partials m n parts x (m.takes n p v).progress (turns s partials m n parts k)
        (with_written (m.takes n p v).written v)) e
        ∙ ap (answered s partials m n parts a (m.takes n p v).progress (turns s partials m n parts k)) (sym h)

    pub turn_refused : (k : ℕ) (p : R) (v v1 : View Reg) (b : Output) (e : Error) → IfSome (told e) (λ r. (m.takes n p v).answer ≡ Err r)
        → OnSome (told e) (v1 ≡ with_written (m.takes n p v).written v) → SameFrames v v1 → RendersWithin (taken k p v) v b b v1 (Err e)
    turn_refused k p v v1 b e a h same =
        renders_refused (taken k p v) v v1 b e (if_both (told e) (λ r x y. turn_is k p v v1 (Err r) x y) a h) same

    pub turn_ends : (k : ℕ) (p : R) (v v1 : View Reg) (b : Output) (u : Unit {0}) → (m.takes n p v).answer ≡ Ok end_turn
        → v1 ≡ with_written (m.takes n p v).written v → SameFrames v v1 → RendersWithin (taken k p v) v b b v1 (Ok u)
    turn_ends k p v v1 b u a h same =
        subst (λ r. RendersWithin r v b b v1 (Ok u)) (sym (turn_is k p v v1 (Ok end_turn) a h))
        (renders_from (done v1) v v1 v1 b b (Ok u) same (renders_done v1 b u))

    turn_goes : (k : ℕ) (p q : R) (v v1 : View Reg) (a : TurnShape) → GoesOn a → (m.takes n p v).answer ≡ Ok a
        → v1 ≡ with_written (m.takes n p v).written v → q ≡ (m.takes n p v).progress
        → taken k p v ≡ and_then (performed s partials parts a v1) (turns s partials m n parts k q)
    turn_goes k p q v v1 a more e h i =
        turn_is k p v v1 (Ok a) e h ∙ answered_more a (m.takes n p v).progress (turns s partials m n parts k) v1 more
        ∙ ap (λ x. and_then (performed s partials parts a v1) (turns s partials m n parts k x)) (sym i)

    pub turn_more : (k : ℕ) (p q : R) (v v1 v2 w : View Reg) (b c d : Output) (a : TurnShape) (u : Unit {0}) (answer : Answer) → GoesOn a
        → (m.takes n p v).answer ≡ Ok a → v1 ≡ with_written (m.takes n p v).written v → q ≡ (m.takes n p v).progress → SameFrames v v1
        → RendersWithin (performed s partials parts a v1) v1 b c v2 (Ok u)
        → RendersWithin (turns s partials m n parts k q v2) v2 c d w answer → RendersWithin (taken k p v) v b d w answer
    turn_more k p q v v1 v2 w b c d a u answer more e h i same x y =
        subst (λ r. RendersWithin r v b d w answer) (sym (turn_goes k p q v v1 a more e h i))
        (renders_from (and_then (performed s partials parts a v1) (turns s partials m n parts k q)) v v1 w b d answer same
        (renders_then (performed s partials parts a v1) (turns s partials m n parts k q) v1 v2 w b c d u answer x y))

    pub turn_fails : (k : ℕ) (p q : R) (v v1 w : View Reg) (b c : Output) (a : TurnShape) (e : Error) → GoesOn a
        → (m.takes n p v).answer ≡ Ok a → v1 ≡ with_written (m.takes n p v).written v → q ≡ (m.takes n p v).progress → SameFrames v v1
        → RendersWithin (performed s partials parts a v1) v1 b c w (Err e) → RendersWithin (taken k p v) v b c w (Err e)
    turn_fails k p q v v1 w b c a e more g h i same x =
        subst (λ r. RendersWithin r v b c w (Err e)) (sym (turn_goes k p q v v1 a more g h i))
        (renders_from (and_then (performed s partials parts a v1) (turns s partials m n parts k q)) v v1 w b c (Err e) same
        (renders_first (performed s partials parts a v1) (turns s partials m n parts k q) v1 w b c e x))

    -- a turn that captures a part
    module _ (place : ℕ) (frame : FrameShape) (trace : Option (List ℕ)) where
      abbrev inner : View Reg → Run Reg
      inner v1 = performed s partials parts (capture_turn place frame trace) v1

      capture_goes : (k : ℕ) (p q : R) (v v1 : View Reg) → (m.takes n p v).answer ≡ Ok (capture_turn place frame trace)
          → v1 ≡ with_written (m.takes n p v).written v → q ≡ (m.takes n p v).progress
          → taken k p v ≡ and_then (silent (inner v1)) (turns s partials m n parts k (m.catches n q (written (inner v1))))
      capture_goes k p q v v1 e h i =
          turn_is k p v v1 (Ok (capture_turn place frame trace)) e h ∙ ap
          (λ x. and_then (silent (inner v1)) (turns s partials m n parts k (m.catches n x (written (inner v1))))) (sym i)

      pub capture_more : (k : ℕ) (p q : R) (v v1 v2 w : View Reg) (b c d : Output) (u : Unit {0}) (answer : Answer)
          → (m.takes n p v).answer ≡ Ok (capture_turn place frame trace) → v1 ≡ with_written (m.takes n p v).written v
          → q ≡ (m.takes n p v).progress → SameFrames v v1
          → RendersWithin (silent (inner v1)) v1 b c v2 (Ok u) → RendersWithin
          (turns s partials m n parts k (m.catches n q (written (inner v1))) v2) v2 c d w answer
          → RendersWithin (taken k p v) v b d w answer
      capture_more k p q v v1 v2 w b c d u answer e h i same x y =
          subst (λ r. RendersWithin r v b d w answer) (sym (capture_goes k p q v v1 e h i))
          (renders_from (and_then (silent (inner v1)) (turns s partials m n parts k (m.catches n q (written (inner v1))))) v v1 w b d answer
          same (renders_then (silent (inner v1)) (turns s partials m n parts k (m.catches n q (written (inner v1)))) v1 v2 w b c d u
          answer x y))

      pub capture_fails : (k : ℕ) (p q : R) (v v1 w : View Reg) (b c : Output) (e : Error)
          → (m.takes n p v).answer ≡ Ok (capture_turn place frame trace) → v1 ≡ with_written (m.takes n p v).written v
          → q ≡ (m.takes n p v).progress → SameFrames v v1
          → RendersWithin (silent (inner v1)) v1 b c w (Err e) → RendersWithin (taken k p v) v b c w (Err e)
      capture_fails k p q v v1 w b c e g h i same x = subst (λ r. RendersWithin r v b c w (Err e)) (sym (capture_goes k p q v v1 g h i))
          (renders_from (and_then (silent (inner v1)) (turns s partials m n parts k (m.catches n q (written (inner v1))))) v v1 w b c
          (Err e) same (renders_first (silent (inner v1)) (turns s partials m n parts k (m.catches n q (written (inner v1)))) v1 w b c e
          x))

    pub turns_done : (p : R) (v : View Reg) (b : Output) (u : Unit {0}) → RendersWithin (turns s partials m n parts zero p v) v b b v (Ok u)
    unfolding turns
    turns_done p v b u = renders_done v b u

    start_is : (v v1 : View Reg) (a : Result R Refusal) → (m.starts n v).answer ≡ a → v1 ≡ with_written (m.starts n v).written v
        → played s partials m n parts v ≡ started s partials m n parts a v1
    unfolding played
    start_is v v1 a e h =
        ap (λ x. started s partials m n parts x (with_written (m.starts n v).written v)) e ∙ ap (started s partials m n parts a) (sym h)

    pub start_refused : (v v1 : View Reg) (b : Output) (e : Error) → IfSome (told e) (λ r. (m.starts n v).answer ≡ Err r)
        → OnSome (told e) (v1 ≡ with_written (m.starts n v).written v) → SameFrames v v1
        → RendersWithin (played s partials m n parts v) v b b v1 (Err e)
    start_refused v v1 b e a h same =
        renders_refused (played s partials m n parts v) v v1 b e (if_both (told e) (λ r x y. start_is v v1 (Err r) x y) a h) same

    pub start_goes : (v v1 w : View Reg) (b c : Output) (p : R) (answer : Answer) → (m.starts n v).answer ≡ Ok p
        → v1 ≡ with_written (m.starts n v).written v → SameFrames v v1
        → RendersWithin (turns s partials m n parts (m.count p) p v1) v1 b c w answer
        → RendersWithin (played s partials m n parts v) v b c w answer
    start_goes v v1 w b c p answer a h same x =
        subst (λ r. RendersWithin r v b c w answer) (sym (start_is v v1 (Ok p) a h))
        (renders_from (turns s partials m n parts (m.count p) p v1) v v1 w b c answer same x)

  -- a chain whose value is known is put out, and a chain with a refusal ends the run
  pub chain_out : (c : ChainShape F) (t : Tree) (v : View Reg) (b a : Output) (answer : Answer) → chain_value s.filters c v ≡ Ok t
      → PieceOut (render t) b a answer → RendersWithin (run_node s partials (chain_node c) v) v b a v answer
  unfolding run_node
  chain_out c t v b a answer e h =
      subst (λ r. RendersWithin (writes_value r v) v b a v answer) (sym e) (renders_put (render t) v b a answer h)

  -- a list: a refusal, an interrupt and the next node
  pub list_fails : (n : NodeShape F T B) (ns : Nodes F T B) (v w : View Reg) (b a : Output) (e : Error)
      → RendersWithin (run_node s partials n v) v b a w (Err e) → RendersWithin (run_nodes s partials (node n ns) v) v b a w (Err e)
  unfolding run_nodes
  list_fails n ns v w b a e h = renders_first (run_node s partials n v) (unless_interrupted (run_nodes s partials ns)) v w b a e h

  pub list_stops : (n : NodeShape F T B) (ns : Nodes F T B) (v w : View Reg) (b a : Output) (u : Unit {0}) → is_some w.interrupt ≡ true
      → RendersWithin (run_node s partials n v) v b a w (Ok u) → RendersWithin (run_nodes s partials (node n ns) v) v b a w (Ok u)
  unfolding run_nodes
  list_stops n ns v w b a u i h =
      renders_then (run_node s partials n v) (unless_interrupted (run_nodes s partials ns)) v w w b a a u (Ok u) h
      (subst (λ x. RendersWithin (cond x (done w) (run_nodes s partials ns w)) w a a w (Ok u)) (sym i) (renders_done w a u))

  pub list_goes : (n : NodeShape F T B) (ns : Nodes F T B) (v w x : View Reg) (b c a : Output) (u : Unit {0}) (answer : Answer)
      → is_some w.interrupt ≡ false → RendersWithin (run_node s partials n v) v b c w (Ok u)
      → RendersWithin (run_nodes s partials ns w) w c a x answer → RendersWithin (run_nodes s partials (node n ns) v) v b a x answer
  unfolding run_nodes
  list_goes n ns v w x b c a u answer i h k =
      renders_then (run_node s partials n v) (unless_interrupted (run_nodes s partials ns)) v w x b c a u answer h
      (subst (λ y. RendersWithin (cond y (done w) (run_nodes s partials ns w)) w c a x answer) (sym i) k)

  pub list_done : (v : View Reg) (b : Output) (u : Unit {0}) → RendersWithin (run_nodes s partials no_nodes v) v b b v (Ok u)
  unfolding run_nodes
  list_done v b u = renders_done v b u
