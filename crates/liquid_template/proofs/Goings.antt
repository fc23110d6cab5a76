-- The result of each turn of a node, as the cycle continues with it.
use Rattle.std.proofs.Common.{Bool, true, false, is_ok, is_some, ◌≡◌, ℕ, suc, ◌-◌, ◌<◌, List, [], ◌∷◌, Option, Some, None, inl}
use Rattle.std.proofs.Common.{inr, Result, Ok, Err, refl, sym, ap, subst, ◌∙◌, option_map}
use Rattle.std.specs.Prelude.{IfOk, IfSome, OnSome, IsOk, IsErrAnd, MatchOption}
use Rattle.std.proofs.lemmas.List.{append-nil}
use Rattle.liquid_error.specs.meaning.Refusal.{Refusal}
use Rattle.liquid_error.specs.declared.error.Error.{Error}
use Rattle.liquid_error.specs.meaning.Told.{told, Gives}
use Rattle.liquid_error.specs.meaning.Helpers.{ErrBecomes}
use Rattle.liquid_runtime.specs.meaning.View.{View}
use Rattle.liquid_runtime.specs.meaning.Written.{with_written, SameFrames}
use Rattle.liquid_runtime.specs.meaning.Frames.{FrameShape, Restore, beginning, restored_by}
use Rattle.liquid_runtime.specs.meaning.OpenFrames.{EndsFirst}
use Rattle.liquid_plugins.specs.meaning.Turns.{text_turn, body_turn, partial_turn, capture_turn, end_turn, NodeMeaning}
use Rattle.liquid_plugins.specs.meaning.Nodes.{NodeShape, Nodes, no_nodes, node}
use Rattle.liquid_template.specs.meaning.Run.{Run, Action, pieces}
use Rattle.liquid_template.specs.meaning.Actions.{done, refuses, asks, under, part_at, silent, refused_through}
use Rattle.liquid_template.specs.meaning.Nodes.{Setting, performed, turns, played, run_node, run_nodes}
use Rattle.liquid_template.specs.meaning.Partials.{partials_at, too_deep, read_as}
use Rattle.liquid_template.specs.meaning.Rendering.{nodes_run}
use Rattle.liquid_template.specs.meaning.Output.{Output, Refuses}
use Rattle.liquid_template.specs.meaning.Outcome.{Cut, Stopped, RendersWithin, was_stopped}
use Rattle.liquid_template.specs.steps.PieceOut.{PieceOut}
use Rattle.liquid_template.specs.steps.NodeTurns.{Answer, Begins, SaysSame}
use Rattle.liquid_template.specs.steps.Going.{Ends, Goes, Opens, Captures, Captured, Finds, Takes}
use Rattle.liquid_template.specs.steps.Place.{TurnAsked}
use Rattle.liquid_template.specs.steps.Sought.{store_answer}
use Rattle.liquid_template.proofs.Framing.{renders_framed, framed_kept, renders_memory}
use Rattle.liquid_template.proofs.Joins.{renders_done, renders_refused}
use Rattle.liquid_template.proofs.Steps.{start_refused, taken, asked_first, asked_refused, turn_refused, turn_ends, turn_more, turn_fails}
use Rattle.liquid_template.proofs.Steps.{capture_more, capture_fails}
use Rattle.liquid_template.proofs.Capturing.{renders_silent, text_silent}
use Rattle.liquid_template.proofs.Passing.{passes_none}
use Rattle.liquid_template.proofs.Pouring.{pours_nothing, pours_refused}
use Rattle.liquid_template.proofs.Renderings.{turns_done_at, list_fails_at, list_stops_at, list_goes_at, list_done_at, turn_puts}
use Rattle.liquid_template.proofs.Renderings.{turn_bodies, turn_captures, turn_includes, if_then, deep_is, more_is}
use Rattle.std.proofs.lemmas.Option.{none-some}

false-not-true : false ≡ true → ⊥
false-not-true e = cc

true-not-false : true ≡ false → ⊥
true-not-false e = cc

-- an answer without an error, or a refusal
pub ok_is : (answer : Answer) → IsOk answer → answer ≡ Ok tt
ok_is (Ok u) h = refl
ok_is (Err e) h = absurd (false-not-true h)

-- the same for what is rendered
pub renders_ok : {Reg : Type 0} (r : Run Reg) (v w : View Reg) (b a : Output) (answer : Answer) → IsOk answer
    → RendersWithin r v b a w (Ok tt) → RendersWithin r v b a w answer
renders_ok r v w b a answer h x = subst (λ y. RendersWithin r v b a w y) (sym (ok_is answer h)) x

-- a refusal that another error says too
pub said_again : {A : Type 0} (meant : Result A Refusal) (o p : Option Refusal) → IfSome p (λ r. option_map (λ x. x) o ≡ Some r)
    → IfSome o (λ r. meant ≡ Err r) → IfSome p (λ r. meant ≡ Err r)
said_again meant o None h k = tt
said_again meant None (Some r) h k = absurd (none-some r h)
said_again meant (Some x) (Some r) h k =
    let same : x ≡ r = cc in
    subst (λ y. meant ≡ Err y) same k

pub gives_again : {A B : Type 0} (of : A → B) (x y : Result A Error) (meant : Result B Refusal) → ErrBecomes (λ r. r) x y → Gives of x meant
    → Gives of y meant
gives_again of (Ok x) y meant h k = subst (λ z. Gives of z meant) (sym h) k
gives_again of (Err e) (Ok x) meant h k = absurd h
gives_again of (Err e) (Err f) meant h k = said_again meant (told e) (told f) h k

pub ok_again : {A : Type 0} (P : A → Type 0) (x y : Result A Error) → ErrBecomes (λ r. r) x y → IfOk x P → IfOk y P
ok_again P (Ok x) y h k = subst (λ z. IfOk z P) (sym h) k
ok_again P (Err e) (Ok x) h k = absurd h
ok_again P (Err e) (Err f) h k = tt

-- an answer that says the same is as good
pub says_same : {Reg : Type 0} (r : Run Reg) (v w : View Reg) (b a : Output) (answer later : Answer) → SaysSame answer later
    → RendersWithin r v b a w answer → RendersWithin r v b a w later
says_same r v w b a (Ok u) later h x = subst (λ y. RendersWithin r v b a w y) (sym h) x
says_same r v w b a (Err e) (Ok u) h x = absurd h
says_same r v w b a (Err e) (Err f) h x =
    record {
      outcome = subst (λ t. MatchOption t (Cut r b a) (Stopped r b a w)) (sym h) x.outcome;
      frames = x.frames;
      pours = record { grows = x.pours.grows; lent = x.pours.lent; text = tt };
    }

-- nothing was written
pub done_ok : {Reg : Type 0} (v : View Reg) (b : Output) (answer : Answer) → IsOk answer → RendersWithin (done v) v b b v answer
done_ok v b answer h = renders_ok (done v) v v b b answer h (renders_done v b tt)

-- memory ran out before a frame is open
pub frame_lost : {Reg : Type 0} (fresh : Reg) (frame : FrameShape) (trace : Option (List ℕ)) (inner : Action Reg) (v w : View Reg)
    (e : Error) → told e ≡ None → w ≡ v → (b : Output) → RendersWithin (under fresh frame trace inner v) v b b w (Err e)
frame_lost fresh frame trace inner v w e h i b =
    subst (λ x. RendersWithin (under fresh frame trace inner v) v b b x (Err e)) (sym i)
    (renders_memory (under fresh frame trace inner v) v b e h)

-- a refusal under a frame, which ends with it
pub partial_fails : {Reg : Type 0} (fresh : Reg) (frame : FrameShape) (trace : Option (List ℕ)) (inner : Action Reg) (v v1 w x : View Reg)
    (rs rs1 rs2 rs3 : List (Restore Reg)) (e : Error) (answer : Answer) → v1 ≡ beginning fresh frame v → rs1 ≡ restored_by frame v ∷ rs
    → rs2 ≡ rs1 → w ≡ v1 → EndsFirst rs2 w rs3 x → ErrBecomes (refused_through trace) (Err e) answer
    → IfSome (told e) (λ r. inner ≡ refuses r) → IsErrAnd answer
    (λ f. (b : Output) → RendersWithin (under fresh frame trace inner v) v b b x (Err f))
partial_fails fresh frame trace inner v v1 w x rs rs1 rs2 rs3 e (Ok u) h i j l k t r = absurd t
partial_fails fresh frame trace inner v v1 w x rs rs1 rs2 rs3 e (Err f) h i j l k t r =
    λ b. renders_framed fresh frame trace inner v v1 w x rs rs1 rs2 rs3 b b (Err e) (Err f) h i j k t
    (renders_refused (inner v1) v1 w b e (if_then (told e) (λ y z. ap (λ o. o v1) z ∙ ap (refuses y) (sym l)) r)
    (subst (λ y. SameFrames v1 y) (sym l) refl))

-- what is owed in addition to what is owed
pub owed_above : {A : Type 0} (x : A) (xs ys zs : List A) → xs ≡ x ∷ ys → ys ≡ zs → xs ≡ x ∷ zs
owed_above x xs ys zs e i = e ∙ ap (λ l. x ∷ l) i

pub asked_true : (b c : Output) (r : Bool) → r ≡ true → TurnAsked b c r → TurnAsked b c true
asked_true b c r e q = subst (λ x. TurnAsked b c x) e q

pub asked_false : (b c : Output) (r : Bool) → r ≡ false → TurnAsked b c r → TurnAsked b c false
asked_false b c r e q = subst (λ x. TurnAsked b c x) e q

module _ {Reg : Type 0} where
  -- the checkpoint before a turn, which passes or is refused
  renders_asked : (v : View Reg) (b c : Output) (u : Unit {0}) → TurnAsked b c true → RendersWithin (asks v) v b c v (Ok u)
  renders_asked v b c u q = subst (λ x. RendersWithin (asks v) v b x v (Ok u)) (sym q.rest) (record {
    outcome = (
      record { taken = sym (append-nil b.sunk.taken); failures = refl; turns = q.turns; bytes = passes_none b.bytes; view = refl },
      refl,
    );
    frames = refl;
    pours = pours_nothing b.sunk u;
  })

  refused_turn : (t : Option Refusal) (v : View Reg) (b c : Output) → Refuses b.turns 0 1 c.turns → IfSome t (λ r. r ≡ was_stopped [])
      → MatchOption t (Cut (asks v) b (record b { turns = c.turns })) (Stopped (asks v) b (record b { turns = c.turns }) v)
  refused_turn None v b c q h = record {
    front = [];
    later = record { piece = []; checkpoint = true; traces = []; at = v } ∷ [];
    part = [];
    rest = [];
    steps = refl;
    pieces_are = refl;
    taken = sym (append-nil b.sunk.taken);
    failures = inl refl;
    turns = inr (1, q);
    bytes = inl (passes_none b.bytes);
  }
  refused_turn (Some r) v b c q h = inr (record {
    front = [];
    step = record { piece = []; checkpoint = true; traces = []; at = v };
    later = [];
    part = [];
    rest = [];
    steps = refl;
    piece = refl;
    taken = sym (append-nil b.sunk.taken);
    view = refl;
    cause = inr (record { nothing = refl; failures = refl; refused = inl (refl, q, passes_none b.bytes); reason = h });
  })

  renders_refused_turn : (v : View Reg) (b c : Output) (e : Error) → TurnAsked b c false → IfSome (told e) (λ r. r ≡ was_stopped [])
      → RendersWithin (asks v) v b c v (Err e)
  renders_refused_turn v b c e q h = subst (λ x. RendersWithin (asks v) v b x v (Err e)) (sym q.rest) (record {
    outcome = refused_turn (told e) v b c q.turns h;
    frames = refl;
    pours = pours_refused b.sunk e;
  })

module _ {Reg F T P B Q : Type 0} (s : Setting Reg F T P B Q) (depth : ℕ) where
  module _ {N R : Type 0} (m : NodeMeaning N R Reg) (n : N) where
    pub start_none : (parts : List (Action Reg)) (v w : View Reg) (b : Output) (answer : Answer) → Begins m n v w answer None
        → SameFrames v w → RendersWithin (played s (partials_at s depth) m n parts v) v b b w answer
    start_none parts v w b (Ok u) h same = absurd h
    start_none parts v w b (Err e) h same = start_refused s (partials_at s depth) m n parts v w b e h.0 h.1 same

    pub ends_stopped : (p : R) (v : View Reg) (b c : Output) (e : Error) → TurnAsked b c false → IfSome (told e) (λ r. r ≡ was_stopped [])
        → Ends s depth m n p p v v b c (Err e)
    ends_stopped p v b c e q h = λ parts k. asked_refused s (partials_at s depth) m n parts k p v b c e (renders_refused_turn v b c e q h)

    module _ (p : R) (v v1 : View Reg) (same : SameFrames v v1) (b0 b : Output) (asked : TurnAsked b0 b true) where
      first : (parts : List (Action Reg)) (k : ℕ) (w : View Reg) (a : Output) (answer : Answer)
          → RendersWithin (taken s (partials_at s depth) m n parts k p v) v b a w answer
          → RendersWithin (turns s (partials_at s depth) m n parts (suc k) p v) v b0 a w answer
      first parts k w a answer h = asked_first s (partials_at s depth) m n parts k p v w b0 b a tt answer (renders_asked v b0 b tt asked) h

      pub ends_refused : (e : Error) → IfSome (told e) (λ r. (m.takes n p v).answer ≡ Err r)
          → OnSome (told e) (v1 ≡ with_written (m.takes n p v).written v) → Ends s depth m n p p v v1 b0 b (Err e)
      ends_refused e a h = λ parts k. first parts k v1 b (Err e) (turn_refused s (partials_at s depth) m n parts k p v v1 b e a h same)

      module _ (written : v1 ≡ with_written (m.takes n p v).written v) where
        pub ends_over : (answer : Answer) → IsOk answer → (m.takes n p v).answer ≡ Ok end_turn → Ends s depth m n p p v v1 b0 b answer
        ends_over (Ok u) ok a =
            λ parts k. first parts k v1 b (Ok u) (turn_ends s (partials_at s depth) m n parts k p v v1 b u a written same)
        ends_over (Err e) ok a = absurd (false-not-true ok)

        module _ (q : R) (progress : q ≡ (m.takes n p v).progress) where
          pub text_ends : (piece : List ℕ) (c : Output) (e : Error) → (m.takes n p v).answer ≡ Ok (text_turn piece)
              → PieceOut piece b c (Err e) → Ends s depth m n p q v v1 b0 c (Err e)
          text_ends piece c e a h =
              λ parts k. first parts k v1 c (Err e) (turn_fails s (partials_at s depth) m n parts k p q v v1 v1 b c
              (text_turn piece) e tt a written progress same (turn_puts s (partials_at s depth) parts piece v1 b c (Err e) h))

          pub text_goes : (piece : List ℕ) (c : Output) (u : Unit {0}) → (m.takes n p v).answer ≡ Ok (text_turn piece)
              → PieceOut piece b c (Ok u) → Goes s depth m n p q v v1 b0 c
          text_goes piece c u a h =
              λ parts k d x answer rest. first parts k x d answer (turn_more s (partials_at s depth) m n parts k p q v v1 v1 x b c d
              (text_turn piece) u answer tt a written progress same (turn_puts s (partials_at s depth) parts piece v1 b c (Ok u) h) rest)

          module _ (frame : FrameShape) (trace : Option (List ℕ)) (w : View Reg) where
            pub body_opens : (place : ℕ) (rs rs1 : List (Restore Reg)) → (m.takes n p v).answer ≡ Ok (body_turn place frame trace)
                → w ≡ beginning s.fresh frame v1 → rs1 ≡ restored_by frame v1 ∷ rs
                → Opens s depth m n p q v w b0 b trace (λ parts. part_at parts place) rs rs1
            body_opens place rs rs1 a h i = record {
              frame = frame;
              from = v1;
              opens = h;
              owes = i;
              goes =
                  λ parts k d e x y u answer one rest. first parts k y e answer
                  (turn_more s (partials_at s depth) m n parts k p q v v1 x y b d e
                  (body_turn place frame trace) u answer tt a written progress same
                  (turn_bodies s (partials_at s depth) parts place frame trace v1 x b d (Ok u) one) rest);
              fails =
                  λ parts k d x e one. first parts k x d (Err e) (turn_fails s (partials_at s depth) m n parts k p q v v1 x b d
                  (body_turn place frame trace) e tt a written progress same (turn_bodies s
                  (partials_at s depth) parts place frame trace v1 x b d (Err e) one));
            }

            pub body_ends : (place : ℕ) (answer : Answer) → (m.takes n p v).answer ≡ Ok (body_turn place frame trace)
                → IsErrAnd answer (λ e. told e ≡ None) → w ≡ v1 → Ends s depth m n p q v w b0 b answer
            body_ends place (Ok u) a h i = absurd h
            body_ends place (Err e) a h i =
                λ parts k. subst (λ x. RendersWithin (turns s (partials_at s depth) m n parts (suc k) p v) v b0 b x (Err e)) (sym i)
                (first parts k v1 b (Err e) (turn_fails s (partials_at s depth) m n parts k p q v v1 v1 b b
                (body_turn place frame trace) e tt a written progress same (turn_bodies s
                (partials_at s depth) parts place frame trace v1 v1 b b (Err e)
                (renders_memory (under s.fresh frame trace (part_at parts place) v1) v1 b e h))))

            -- the captured part's run, as it is under its frame
            captured_is : (parts : List (Action Reg)) (place : ℕ) → performed s (partials_at s depth) parts
                (capture_turn place frame trace) v1 ≡ under s.fresh frame trace (part_at parts place) v1
            captured_is parts place = turn_captures s (partials_at s depth) parts place frame trace v1

            pub capture_opens : (place : ℕ) (rs rs1 : List (Restore Reg)) → (m.takes n p v).answer ≡ Ok (capture_turn place frame trace)
                → w ≡ beginning s.fresh frame v1 → rs1 ≡ restored_by frame v1 ∷ rs
                → Captures s depth m n p q v w b0 b trace (λ parts. part_at parts place) rs rs1
            capture_opens place rs rs1 a h i = record {
              frame = frame;
              from = v1;
              opens = h;
              owes = i;
              goes =
                  λ parts k d e x y u answer one rest. first parts k y e answer
                  (capture_more s (partials_at s depth) m n parts place frame trace k p q v v1 x y b d e u answer a written progress same
                  (subst {A = Run Reg} (λ r. RendersWithin (silent r) v1 b d x (Ok u)) (sym (captured_is parts place)) one)
                  (subst {A = Run Reg} (λ r. RendersWithin (turns s (partials_at s depth) m n parts k (m.catches n q (pieces r.steps)) x) x
                  d e y answer) (sym (captured_is parts place)) rest));
              fails =
                  λ parts k d x e one. first parts k x d (Err e) (capture_fails s
                  (partials_at s depth) m n parts place frame trace k p q v v1 x b d e a written progress same
                  (subst {A = Run Reg} (λ r. RendersWithin (silent r) v1 b d x (Err e)) (sym (captured_is parts place)) one));
            }

            pub capture_ends : (place : ℕ) (answer : Answer) → (m.takes n p v).answer ≡ Ok (capture_turn place frame trace)
                → IsErrAnd answer (λ e. told e ≡ None) → w ≡ v1 → Ends s depth m n p q v w b0 b answer
            capture_ends place (Ok u) a h i = absurd h
            capture_ends place (Err e) a h i =
                λ parts k. subst (λ x. RendersWithin (turns s (partials_at s depth) m n parts (suc k) p v) v b0 b x (Err e)) (sym i)
                (first parts k v1 b (Err e) (capture_fails s (partials_at s depth) m n parts place frame trace k p q v v1 v1 b b e a written
                progress same (renders_memory (silent (performed s (partials_at s depth) parts (capture_turn place frame trace) v1)) v1 b
                e h)))

            pub partial_opens : (name : List ℕ) (inner : Action Reg) (rs rs1 : List (Restore Reg))
                → (m.takes n p v).answer ≡ Ok (partial_turn name frame trace) → partials_at s depth name ≡ inner
                → w ≡ beginning s.fresh frame v1 → rs1 ≡ restored_by frame v1 ∷ rs
                → Opens s depth m n p q v w b0 b trace (λ parts. inner) rs rs1
            partial_opens name inner rs rs1 a is h i = record {
              frame = frame;
              from = v1;
              opens = h;
              owes = i;
              goes =
                  λ parts k d e x y u answer one rest. first parts k y e answer
                  (turn_more s (partials_at s depth) m n parts k p q v v1 x y b d e
                  (partial_turn name frame trace) u answer tt a written progress same
                  (turn_includes s (partials_at s depth) parts name frame trace v1 x b d (Ok u)
                  (subst (λ z. RendersWithin (under s.fresh frame trace z v1) v1 b d x (Ok u)) (sym is) one)) rest);
              fails =
                  λ parts k d x e one. first parts k x d (Err e) (turn_fails s (partials_at s depth) m n parts k p q v v1 x b d
                  (partial_turn name frame trace) e tt a written progress same
                  (turn_includes s (partials_at s depth) parts name frame trace v1 x b d (Err e)
                  (subst (λ z. RendersWithin (under s.fresh frame trace z v1) v1 b d x (Err e)) (sym is) one)));
            }

            pub partial_ends : (name : List ℕ) (answer : Answer) → (m.takes n p v).answer ≡ Ok (partial_turn name frame trace)
                → IsErrAnd answer (λ e. (c : Output) → RendersWithin (under s.fresh frame trace (partials_at s depth name) v1) v1 c c w
                (Err e)) → Ends s depth m n p q v w b0 b answer
            partial_ends name (Ok u) a h = absurd h
            partial_ends name (Err e) a h =
                λ parts k. first parts k w b (Err e) (turn_fails s (partials_at s depth) m n parts k p q v v1 w b b
                (partial_turn name frame trace) e tt a written progress same
                (turn_includes s (partials_at s depth) parts name frame trace v1 w b b (Err e) (h b)))

  -- what a name gives
  pub finds_none : (name : List ℕ) (e : Error) → depth ≡ 0 → IfSome (told e) (λ r. r ≡ too_deep)
      → IfSome (told e) (λ r. partials_at s depth name ≡ refuses r)
  finds_none name e h i = if_then (told e) (λ r j. deep_is s depth name h ∙ ap refuses (sym j)) i

  pub finds_one : {A : Type 0} (of : A → Nodes F T B) (name : List ℕ) (x : A) → 0 < depth → store_answer s.finds name ≡ Ok (of x)
      → Finds s depth of name (Ok x)
  finds_one of name x h i = (h, more_is s depth name h ∙ ap (λ y. read_as y (nodes_run s (depth - 1))) i)

  pub finds_refusal : {A : Type 0} (of : A → Nodes F T B) (name : List ℕ) (e : Error) → 0 < depth
      → IfSome (told e) (λ r. store_answer s.finds name ≡ Err r) → Finds s depth of name (Err e)
  finds_refusal of name e h i = if_then (told e) (λ r j. more_is s depth name h ∙ ap (λ y. read_as y (nodes_run s (depth - 1))) j) i

  pub finds_given : {A : Type 0} (of : A → Nodes F T B) (name : List ℕ) (result : Result A Error) → 0 < depth
      → Gives of result (store_answer s.finds name) → Finds s depth of name result
  finds_given of name (Ok x) h i = finds_one of name x h i
  finds_given of name (Err e) h i = finds_refusal of name e h i

  -- what was owed before a turn is owed when its frame has ended
  pub opens_kept : {N R : Type 0} (m : NodeMeaning N R Reg) (n : N) (p q : R) (v w x y : View Reg) (b c : Output) (trace : Option (List ℕ))
      (inner : List (Action Reg) → Action Reg) (rs rs1 rs2 rs3 : List (Restore Reg)) → Opens s depth m n p q v w b c trace inner rs rs1
      → rs2 ≡ rs1 → EndsFirst rs2 x rs3 y → rs3 ≡ rs
  opens_kept m n p q v w x y b c trace inner rs rs1 rs2 rs3 o same ends = framed_kept o.frame o.from x y rs rs1 rs2 rs3 o.owes same ends

  -- what was rendered under a turn's frame, when it has ended
  module _ {N R : Type 0} (m : NodeMeaning N R Reg) (n : N) (parts : List (Action Reg)) (p q : R) (v w x y : View Reg) (b c d : Output)
      (trace : Option (List ℕ)) (inner : List (Action Reg) → Action Reg) (rs rs1 rs2 rs3 : List (Restore Reg))
      (o : Opens s depth m n p q v w b c trace inner rs rs1) (same : rs2 ≡ rs1) (ends : EndsFirst rs2 x rs3 y) where
    pub opens_taken : (answer answer' : Answer) (result : Bool) → result ≡ is_ok answer' → ErrBecomes (refused_through trace) answer answer'
        → RendersWithin (inner parts w) w c d x answer → Takes s depth m n parts p q v y b d answer' result
    opens_taken answer (Ok u) true e t h = (
      refl,
      λ k a z later rest. o.goes parts k d a y z u later (renders_framed s.fresh o.frame trace
          (inner parts) o.from w x y rs rs1 rs2 rs3 c d answer (Ok u) o.opens o.owes same ends t h) rest,
    )
    opens_taken answer (Ok u) false e t h = absurd (false-not-true e)
    opens_taken answer (Err f) true e t h = absurd (true-not-false e)
    opens_taken answer (Err f) false e t h =
        λ k. o.fails parts k d y f (renders_framed s.fresh o.frame trace (inner parts) o.from w x y rs rs1 rs2 rs3 c d answer
        (Err f) o.opens o.owes same ends t h)

  module _ {N R : Type 0} (m : NodeMeaning N R Reg) (n : N) (parts : List (Action Reg)) (p q z : R) (v w y : View Reg) (b c d : Output)
      (trace : Option (List ℕ)) (inner : List (Action Reg) → Action Reg) (rs rs1 rs3 : List (Restore Reg)) (answer : Answer) (result : Bool)
      (o : Captures s depth m n p q v w b c trace inner rs rs1) (t : Captured m n (inner parts) trace q z w y rs1 rs3 c d answer result)
    where
      pub captures_kept : rs3 ≡ rs
      captures_kept = framed_kept o.frame o.from t.left y rs rs1 rs1 rs3 o.owes refl t.ends

      captured_framed : (last : Answer) → answer ≡ last → RendersWithin
          (under s.fresh o.frame trace (inner parts) o.from) o.from t.start t.last y last
      captured_framed last e =
          renders_framed s.fresh o.frame trace (inner parts) o.from w t.left y rs rs1 rs1 rs3 t.start t.last t.own last o.opens o.owes refl
          t.ends (subst (λ i. ErrBecomes (refused_through trace) t.own i) e t.traced) t.rendered

      captured_cases : (last : Answer) (goes : Bool) → answer ≡ last → result ≡ goes → goes ≡ is_ok last
          → Takes s depth m n parts p z v y b d last goes
      captured_cases (Ok u) true e f i = (
        refl,
        λ k a x later rest. o.goes parts k d a y x u later (renders_silent
            (under s.fresh o.frame trace (inner parts) o.from) o.from y c t.start t.last d (Ok u) t.aside (captured_framed (Ok u) e))
            (subst (λ g. RendersWithin (turns s (partials_at s depth) m n parts k g y) y d a x later)
            (t.progress f ∙ ap (m.catches n q) (text_silent (under s.fresh o.frame trace (inner parts) o.from) o.from y c t.start t.last d u
            t.aside (captured_framed (Ok u) e))) rest),
      )
      captured_cases (Ok u) false e f i = absurd (false-not-true i)
      captured_cases (Err x) true e f i = absurd (true-not-false i)
      captured_cases (Err x) false e f i =
          λ k. o.fails parts k d y x (renders_silent (under s.fresh o.frame trace (inner parts) o.from) o.from y c t.start t.last d
          (Err x) t.aside (captured_framed (Err x) e))

      pub captured_taken : Takes s depth m n parts p z v y b d answer result
      captured_taken = captured_cases answer result refl refl t.goes_on

  -- a turn among those that are left
  module _ {N R : Type 0} (m : NodeMeaning N R Reg) (n : N) (parts : List (Action Reg)) where
    pub takes_more : (j k : ℕ) (o p q : R) (v w x : View Reg) (b c a : Output) (answer later : Answer) (result : Bool) → j ≡ suc k → p ≡ o
        → result ≡ true → Takes s depth m n parts p q v w b c answer result
        → RendersWithin (turns s (partials_at s depth) m n parts k q w) w c a x later
        → RendersWithin (turns s (partials_at s depth) m n parts j o v) v b a x later
    takes_more j k o p q v w x b c a answer later true i l e h rest =
        subst (λ z. RendersWithin (turns s (partials_at s depth) m n parts z o v) v b a x later) (sym i)
        (subst (λ z. RendersWithin (turns s (partials_at s depth) m n parts (suc k) z v) v b a x later) l (h.1 k a x later rest))
    takes_more j k o p q v w x b c a answer later false i l e h rest = absurd (false-not-true e)

    pub takes_ok : (p q : R) (v w : View Reg) (b c : Output) (answer : Answer) (result : Bool) → result ≡ true
        → Takes s depth m n parts p q v w b c answer result → IsOk answer
    takes_ok p q v w b c answer true e h = h.0
    takes_ok p q v w b c answer false e h = absurd (false-not-true e)

    pub takes_last : (j k : ℕ) (o p q : R) (v w : View Reg) (b c : Output) (answer : Answer) (result : Bool) → j ≡ suc k → p ≡ o
        → result ≡ false → Takes s depth m n parts p q v w b c answer result
        → RendersWithin (turns s (partials_at s depth) m n parts j o v) v b c w answer
    takes_last j k o p q v w b c answer true i l e h = absurd (true-not-false e)
    takes_last j k o p q v w b c answer false i l e h =
        subst (λ z. RendersWithin (turns s (partials_at s depth) m n parts z o v) v b c w answer) (sym i)
        (subst (λ z. RendersWithin (turns s (partials_at s depth) m n parts (suc k) z v) v b c w answer) l (h k))

    pub turns_over : (j : ℕ) (p : R) (v : View Reg) (b : Output) (answer : Answer) → j ≡ 0 → IsOk answer
        → RendersWithin (turns s (partials_at s depth) m n parts j p v) v b b v answer
    turns_over j p v b (Ok u) i h = turns_done_at s (partials_at s depth) m n parts j p v b u i
    turns_over j p v b (Err e) i h = absurd (false-not-true h)

  -- nodes of a list, by the result of each
  module _ (ms : Nodes F T B) (n : NodeShape F T B) (ns : Nodes F T B) (is : ms ≡ node n ns) (v w : View Reg) (b a : Output)
      (answer : Answer) (h : RendersWithin (run_node s (partials_at s depth) n v) v b a w answer) where
    pub node_fails : (e : Error) → answer ≡ Err e → RendersWithin (run_nodes s (partials_at s depth) ms v) v b a w answer
    node_fails e i =
        subst (λ x. RendersWithin (run_nodes s (partials_at s depth) ms v) v b a w x) (sym i)
        (list_fails_at s (partials_at s depth) ms n ns v w b a e is (subst
        (λ x. RendersWithin (run_node s (partials_at s depth) n v) v b a w x) i h))

    pub node_stops : (u : Unit {0}) → answer ≡ Ok u → is_some w.interrupt ≡ true
        → RendersWithin (run_nodes s (partials_at s depth) ms v) v b a w answer
    node_stops u i j =
        subst (λ x. RendersWithin (run_nodes s (partials_at s depth) ms v) v b a w x) (sym i)
        (list_stops_at s (partials_at s depth) ms n ns v w b a u is j
        (subst (λ x. RendersWithin (run_node s (partials_at s depth) n v) v b a w x) i h))

    pub node_goes : (u : Unit {0}) (x : View Reg) (d : Output) (later : Answer) → answer ≡ Ok u → is_some w.interrupt ≡ false
        → RendersWithin (run_nodes s (partials_at s depth) ns w) w a d x later
        → RendersWithin (run_nodes s (partials_at s depth) ms v) v b d x later
    node_goes u x d later i j rest =
        list_goes_at s (partials_at s depth) ms n ns v w x b a d u later is j
        (subst (λ z. RendersWithin (run_node s (partials_at s depth) n v) v b a w z) i h) rest

  pub nodes_over : (ms : Nodes F T B) (v : View Reg) (b : Output) (answer : Answer) → ms ≡ no_nodes → IsOk answer
      → RendersWithin (run_nodes s (partials_at s depth) ms v) v b b v answer
  nodes_over ms v b (Ok u) i h = list_done_at s (partials_at s depth) ms v b u i
  nodes_over ms v b (Err e) i h = absurd (false-not-true h)
