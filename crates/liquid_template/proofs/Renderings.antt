-- The results that the renderer returns, given what a list, a node or a turn is.
use Rattle.std.proofs.lemmas.Bool.{false_from_ne_true}
use Rattle.std.proofs.Common.{Bool, ◌↔◌, ◌≡◌, ℕ, zero, suc, ◌+◌, ◌-◌, ◌<◌, ◌≤◌, List, [], ◌∷◌, length, get_or, true, false}
use Rattle.std.proofs.Common.{is_some, Option, Some, None, Result, Ok, Err, IfSome, refl, sym, ap, subst, inl, inr, arith, sub-one}
use Rattle.std.specs.declared.alloc.Global.{Global}
use Rattle.std.specs.declared.vec.Vec.{Vec}
use Rattle.liquid_error.specs.declared.error.Error.{Error}
use Rattle.liquid_error.specs.meaning.Refusal.{Refusal}
use Rattle.liquid_error.specs.meaning.Told.{told}
use Rattle.liquid_value.specs.meaning.Tree.{Tree}
use Rattle.liquid_value.specs.meaning.Render.{render}
use Rattle.liquid_runtime.specs.meaning.View.{View}
use Rattle.liquid_runtime.specs.meaning.Written.{with_written, SameFrames}
use Rattle.liquid_runtime.specs.meaning.Frames.{FrameShape}
use Rattle.liquid_plugins.specs.meaning.Chain.{ChainShape, FilterMeaning, chain_value}
use Rattle.liquid_plugins.specs.meaning.Turns.{TurnShape, text_turn, body_turn, partial_turn, capture_turn, end_turn, NodeMeaning}
use Rattle.liquid_plugins.specs.declared.tree.Node.{Node}
use Rattle.liquid_plugins.specs.meaning.Nodes.{NodeShape, text_node, chain_node, tag_node, block_node, Nodes, no_nodes, node, Parts}
use Rattle.liquid_plugins.specs.meaning.NodesOf.{nodes_of}
use Rattle.liquid_template.specs.meaning.Run.{Action}
use Rattle.liquid_template.specs.meaning.Actions.{done, refuses, writes_value, under, part_at}
use Rattle.liquid_template.specs.meaning.Nodes.{Setting, performed, turns, played, run_node, run_nodes, run_parts}
use Rattle.liquid_template.specs.meaning.Partials.{too_deep, read_as, sought, partials_at}
use Rattle.liquid_template.specs.meaning.Rendering.{nodes_run}
use Rattle.liquid_template.specs.meaning.Output.{Output}
use Rattle.liquid_template.specs.meaning.Outcome.{RendersWithin}
use Rattle.liquid_template.specs.steps.PieceOut.{PieceOut, ValueOut}
use Rattle.liquid_template.proofs.Framing.{renders_memory}
use Rattle.liquid_template.proofs.Joins.{renders_done, renders_refused}
use Rattle.liquid_template.proofs.Putting.{renders_put}
use Rattle.liquid_template.proofs.Steps.{turns_done, start_goes, list_fails, list_stops, list_goes, list_done}
use Rattle.liquid_template.specs.steps.PartsOf.{parts_of}
use Rattle.liquid_template.specs.steps.Sought.{store_answer}

abbrev Answer : Type 0
Answer = Result (Unit {0}) Error

pub if_then : {A C : Refusal → Type 0} (t : Option Refusal) → ((r : Refusal) → A r → C r) → IfSome t A → IfSome t C
if_then None f a = tt
if_then (Some r) f a = f r a

pub true-not-false : (x : Bool) → x ≡ true → x ≡ false → ⊥
true-not-false x i e = cc

-- a test that holds exactly if another one does
pub stands : (x y : Bool) → (x ≡ true) ↔ (y ≡ true) → x ≡ true → y ≡ true
stands x y h e = h.0 e

pub stands_not : (x y : Bool) → (x ≡ true) ↔ (y ≡ true) → x ≡ false → y ≡ false
stands_not x y h e = false_from_ne_true y (λ i. true-not-false x (h.1 i) e)

pub left_more : (c e : ℕ) → c < e → e - c ≡ suc (e - (c + 1))
left_more c e h = omega arith

pub left_none : (c e : ℕ) → e ≤ c → e - c ≡ 0
left_none c e h = omega arith

pub none_yet : (j k : ℕ) → j ≡ k → j - 0 ≡ k
none_yet j k h = omega arith

module _ {Reg F T P B Q : Type 0} (s : Setting Reg F T P B Q) (partials : List ℕ → Action Reg) where
  module _ {N R : Type 0} (m : NodeMeaning N R Reg) (n : N) (parts : List (Action Reg)) where
    pub turns_done_at : (j : ℕ) (p : R) (v : View Reg) (b : Output) (u : Unit {0}) → j ≡ 0
        → RendersWithin (turns s partials m n parts j p v) v b b v (Ok u)
    turns_done_at j p v b u i =
        subst (λ x. RendersWithin (turns s partials m n parts x p v) v b b v (Ok u)) (sym i) (turns_done s partials m n parts p v b u)

    pub start_goes_at : (j : ℕ) (v v1 w : View Reg) (b c : Output) (p : R) (answer : Answer) → j ≡ m.count p → (m.starts n v).answer ≡ Ok p
        → v1 ≡ with_written (m.starts n v).written v → SameFrames v v1 → RendersWithin (turns s partials m n parts j p v1) v1 b c w answer
        → RendersWithin (played s partials m n parts v) v b c w answer
    start_goes_at j v v1 w b c p answer i a h same x =
        start_goes s partials m n parts v v1 w b c p answer a h same
        (subst (λ y. RendersWithin (turns s partials m n parts y p v1) v1 b c w answer) i x)

  -- nodes
  pub node_puts : (n : NodeShape F T B) (piece : List ℕ) (v : View Reg) (b a : Output) (answer : Answer) → n ≡ text_node piece
      → PieceOut piece b a answer → RendersWithin (run_node s partials n v) v b a v answer
  unfolding run_node
  node_puts n piece v b a answer e h =
      subst (λ x. RendersWithin (run_node s partials x v) v b a v answer) (sym e) (renders_put piece v b a answer h)

  pub node_chains : (n : NodeShape F T B) (c : ChainShape F) (v w : View Reg) (b a : Output) (answer : Answer) → n ≡ chain_node c
      → RendersWithin (writes_value (chain_value s.filters c v) v) v b a w answer → RendersWithin (run_node s partials n v) v b a w answer
  unfolding run_node
  node_chains n c v w b a answer e h = subst (λ x. RendersWithin (run_node s partials x v) v b a w answer) (sym e) h

  pub node_tags : (n : NodeShape F T B) (x : T) (v w : View Reg) (b a : Output) (answer : Answer) → n ≡ tag_node x
      → RendersWithin (played s partials s.tags x [] v) v b a w answer → RendersWithin (run_node s partials n v) v b a w answer
  unfolding run_node
  node_tags n x v w b a answer e h = subst (λ y. RendersWithin (run_node s partials y v) v b a w answer) (sym e) h

  pub node_blocks : (n : NodeShape F T B) (x : B) (ps : Parts F T B) (v w : View Reg) (b a : Output) (answer : Answer) → n ≡ block_node x ps
      → RendersWithin (played s partials s.blocks x (run_parts s partials ps) v) v b a w answer
      → RendersWithin (run_node s partials n v) v b a w answer
  unfolding run_node
  node_blocks n x ps v w b a answer e h = subst (λ y. RendersWithin (run_node s partials y v) v b a w answer) (sym e) h

  -- lists
  pub list_fails_at : (ms : Nodes F T B) (n : NodeShape F T B) (ns : Nodes F T B) (v w : View Reg) (b a : Output) (e : Error)
      → ms ≡ node n ns → RendersWithin (run_node s partials n v) v b a w (Err e) → RendersWithin (run_nodes s partials ms v) v b a w (Err e)
  list_fails_at ms n ns v w b a e i h =
      subst (λ x. RendersWithin (run_nodes s partials x v) v b a w (Err e)) (sym i) (list_fails s partials n ns v w b a e h)

  pub list_stops_at : (ms : Nodes F T B) (n : NodeShape F T B) (ns : Nodes F T B) (v w : View Reg) (b a : Output) (u : Unit {0})
      → ms ≡ node n ns → is_some w.interrupt ≡ true → RendersWithin (run_node s partials n v) v b a w (Ok u)
      → RendersWithin (run_nodes s partials ms v) v b a w (Ok u)
  list_stops_at ms n ns v w b a u i j h =
      subst (λ x. RendersWithin (run_nodes s partials x v) v b a w (Ok u)) (sym i) (list_stops s partials n ns v w b a u j h)

  pub list_goes_at : (ms : Nodes F T B) (n : NodeShape F T B) (ns : Nodes F T B) (v w x : View Reg) (b c a : Output) (u : Unit {0})
      (answer : Answer) → ms ≡ node n ns → is_some w.interrupt ≡ false → RendersWithin (run_node s partials n v) v b c w (Ok u)
      → RendersWithin (run_nodes s partials ns w) w c a x answer → RendersWithin (run_nodes s partials ms v) v b a x answer
  list_goes_at ms n ns v w x b c a u answer i j h k =
      subst (λ y. RendersWithin (run_nodes s partials y v) v b a x answer) (sym i) (list_goes s partials n ns v w x b c a u answer j h k)

  pub list_done_at : (ms : Nodes F T B) (v : View Reg) (b : Output) (u : Unit {0}) → ms ≡ no_nodes
      → RendersWithin (run_nodes s partials ms v) v b b v (Ok u)
  list_done_at ms v b u i = subst (λ x. RendersWithin (run_nodes s partials x v) v b b v (Ok u)) (sym i) (list_done s partials v b u)

  -- turns
  module _ (parts : List (Action Reg)) where
    pub turn_puts : (piece : List ℕ) (v : View Reg) (b a : Output) (answer : Answer) → PieceOut piece b a answer
        → RendersWithin (performed s partials parts (text_turn piece) v) v b a v answer
    unfolding performed
    turn_puts piece v b a answer h = renders_put piece v b a answer h

    pub turn_bodies : (place : ℕ) (frame : FrameShape) (trace : Option (List ℕ)) (v w : View Reg) (b a : Output) (answer : Answer)
        → RendersWithin (under s.fresh frame trace (part_at parts place) v) v b a w answer
        → RendersWithin (performed s partials parts (body_turn place frame trace) v) v b a w answer
    unfolding performed
    turn_bodies place frame trace v w b a answer h = h

    pub turn_captures : (place : ℕ) (frame : FrameShape) (trace : Option (List ℕ)) (v : View Reg)
        → performed s partials parts (capture_turn place frame trace) v ≡ under s.fresh frame trace (part_at parts place) v
    unfolding performed
    turn_captures place frame trace v = refl

    pub turn_includes : (name : List ℕ) (frame : FrameShape) (trace : Option (List ℕ)) (v w : View Reg) (b a : Output) (answer : Answer)
        → RendersWithin (under s.fresh frame trace (partials name) v) v b a w answer
        → RendersWithin (performed s partials parts (partial_turn name frame trace) v) v b a w answer
    unfolding performed
    turn_includes name frame trace v w b a answer h = h

    pub turn_nothing : (v : View Reg) (b : Output) (u : Unit {0}) → RendersWithin (performed s partials parts end_turn v) v b b v (Ok u)
    unfolding performed
    turn_nothing v b u = renders_done v b u

  -- parts
  module _ {X N K : Type 0} (f : X → F) (t : N → T) (o : K → B) where
    part_is : (vs : List (Vec (Node X N K) Global)) (k : ℕ) (x : Vec (Node X N K) Global) → k < length vs → x ≡ get_or vs k x
        → part_at (run_parts s partials (parts_of f t o vs)) k ≡ run_nodes s partials (nodes_of f t o x.items)
    unfolding run_parts
    part_is [] k x h e = absurd (omega arith)
    part_is (v ∷ vs) zero x h e = rw e refl
    part_is (v ∷ vs) (suc k) x h e = part_is vs k x (omega arith) e

    no_part_is : (vs : List (Vec (Node X N K) Global)) (k : ℕ) → length vs ≤ k → part_at (run_parts s partials (parts_of f t o vs)) k ≡ done
    unfolding run_parts
    no_part_is [] k h = refl
    no_part_is (v ∷ vs) zero h = absurd (omega arith)
    no_part_is (v ∷ vs) (suc k) h = no_part_is vs k (omega arith)

    pub part_renders : (vs : List (Vec (Node X N K) Global)) (k : ℕ) (x : Vec (Node X N K) Global) (v w : View Reg) (b a : Output)
        (answer : Answer) → k < length vs → x ≡ get_or vs k x → RendersWithin
        (run_nodes s partials (nodes_of f t o x.items) v) v b a w answer
        → RendersWithin (part_at (run_parts s partials (parts_of f t o vs)) k v) v b a w answer
    part_renders vs k x v w b a answer h e y = subst (λ z. RendersWithin (z v) v b a w answer) (sym (part_is vs k x h e)) y

    pub no_part_renders : (vs : List (Vec (Node X N K) Global)) (k : ℕ) (v : View Reg) (b : Output) (u : Unit {0}) → length vs ≤ k
        → RendersWithin (part_at (run_parts s partials (parts_of f t o vs)) k v) v b b v (Ok u)
    no_part_renders vs k v b u h = subst (λ z. RendersWithin (z v) v b b v (Ok u)) (sym (no_part_is vs k h)) (renders_done v b u)

    no_parts_are : (vs : List (Vec (Node X N K) Global)) → vs ≡ [] → run_parts s partials (parts_of f t o vs) ≡ []
    unfolding run_parts
    no_parts_are vs e = rw e refl

    pub without_parts : (vs : List (Vec (Node X N K) Global)) (turn : TurnShape) (v w : View Reg) (b a : Output) (answer : Answer) → vs ≡ []
        → RendersWithin (performed s partials (run_parts s partials (parts_of f t o vs)) turn v) v b a w answer
        → RendersWithin (performed s partials [] turn v) v b a w answer
    without_parts vs turn v w b a answer e h =
        subst (λ ps. RendersWithin (performed s partials ps turn v) v b a w answer) (no_parts_are vs e) h

-- chains
module _ {Reg : Type 0} where
  pub value_refused : (r : Result Tree Refusal) (v : View Reg) (b : Output) (e : Error) → IfSome (told e) (λ refusal. r ≡ Err refusal)
      → RendersWithin (writes_value r v) v b b v (Err e)
  value_refused r v b e h = renders_refused (writes_value r v) v v b e (if_then (told e) (λ refusal i. ap (λ x. writes_value x v) i) h) refl

  pub value_out : (r : Result Tree Refusal) (t : Tree) (piece : List ℕ) (v : View Reg) (b a : Output) (answer : Answer) → r ≡ Ok t
      → piece ≡ render t → PieceOut piece b a answer → RendersWithin (writes_value r v) v b a v answer
  value_out r t piece v b a answer e i h =
      subst (λ x. RendersWithin (writes_value x v) v b a v answer) (sym e)
      (renders_put (render t) v b a answer (subst (λ x. PieceOut x b a answer) i h))

  -- .. or there was no memory for its text
  pub value_written : (r : Result Tree Refusal) (t : Tree) (text : List ℕ) (v : View Reg) (b a : Output) (answer : Answer) → r ≡ Ok t
      → text ≡ render t → ValueOut text b a answer → RendersWithin (writes_value r v) v b a v answer
  value_written r t text v b a answer e i (inl h) = value_out r t text v b a answer e i h
  value_written r t text v b a (Ok u) e i (inr h) = absurd h.1
  value_written r t text v b a (Err error) e i (inr h) =
      subst (λ c. RendersWithin (writes_value r v) v b c v (Err error)) (sym h.0) (renders_memory (writes_value r v) v b error h.1)

  -- chains of one shape have the same result
  pub chain_out : {F : Type 0} (m : FilterMeaning F) (x y : ChainShape F) (v w : View Reg) (b a : Output) (answer : Answer) → x ≡ y
      → RendersWithin (writes_value (chain_value m x v) v) v b a w answer
      → RendersWithin (writes_value (chain_value m y v) v) v b a w answer
  chain_out m x y v w b a answer e h = subst (λ c. RendersWithin (writes_value (chain_value m c v) v) v b a w answer) e h

-- what can't be refused, except if memory runs out
pub never_refused : {A : Type 0} (x : A) (t : Option Refusal) → IfSome t (λ refusal. Ok x ≡ Err refusal) → t ≡ None
never_refused x None h = refl
never_refused x (Some refusal) h = cc

-- partials
module _ {Reg F T P B Q : Type 0} (s : Setting Reg F T P B Q) where
  sought_is : (finds : Option (List ℕ → Result (Nodes F T B) Refusal)) (name : List ℕ) (run : Nodes F T B → Action Reg)
      → sought finds name run ≡ read_as (store_answer finds name) run
  sought_is None name run = refl
  sought_is (Some finds) name run = refl

  pub deep_is : (depth : ℕ) (name : List ℕ) → depth ≡ 0 → partials_at s depth name ≡ refuses too_deep
  unfolding partials_at
  deep_is depth name e = rw e refl

  pub more_is : (depth : ℕ) (name : List ℕ) → 0 < depth → partials_at s depth name ≡ read_as (store_answer s.finds name)
      (nodes_run s (depth - 1))
  unfolding partials_at
  more_is zero name h = absurd (omega arith)
  more_is (suc depth) name h = rw sub-one (sought_is s.finds name (nodes_run s depth))
