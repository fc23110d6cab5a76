-- How outcomes over a sink join: one action after another, and a frame with a trace.
use Rattle.std.proofs.Common.{◌≡◌, ℕ, ◌+◌, ◌<◌, true, false, List, [], ◌∷◌, ◌++◌, length, map, Option, Some, None, Result, Ok, Err, ◌⊎◌}
use Rattle.std.proofs.Common.{inl, inr, refl, sym, ap, subst, ◌∙◌, append_assoc, arith, option_map}
use Rattle.std.specs.Prelude.{MatchOption, IfSome, unwrap_or}
use Rattle.std.proofs.lemmas.List.{append-nil, length-append, map-append}
use Rattle.liquid_error.specs.declared.error.Error.{Error}
use Rattle.liquid_error.specs.meaning.Refusal.{Refusal}
use Rattle.liquid_error.specs.meaning.Told.{told}
use Rattle.liquid_error.specs.meaning.Helpers.{ErrBecomes}
use Rattle.liquid_runtime.specs.meaning.View.{View}
use Rattle.liquid_runtime.specs.meaning.Written.{written_of, with_written, SameFrames}
use Rattle.liquid_runtime.specs.meaning.Frames.{FrameShape, no_frame, stack_frame, sandboxed_frame, isolated_frame, global_frame, Restore}
use Rattle.liquid_runtime.specs.meaning.Frames.{beginning, restored_by, ending}
use Rattle.liquid_template.specs.meaning.Run.{Step, Run, Action, pieces, written, one_if, checkpoints}
use Rattle.liquid_template.specs.meaning.Actions.{refused_through, done, refuses, goes_on, and_then, step_outside, outside, under}
use Rattle.liquid_template.proofs.Pouring.{pours_nothing, pours_refused, pours_then, pours_through}
use Rattle.liquid_template.specs.meaning.Output.{Output, Passes, Refuses, PassesUpTo}
use Rattle.liquid_template.specs.meaning.Outcome.{Whole, SinkFails, GateRefuses, BrokenOff, Cut, Stopped, Outcome, RendersWithin}
use Rattle.liquid_template.proofs.Passing.{passes_none, passes_then, refuses_then, up_to_then, passes_at, up_to_at, refuses_at}

pub some_is : {A : Type 0} (x y : A) → Some x ≡ Some y → x ≡ y
some_is x y e = ap (λ o. unwrap_or o x) e

at_most_once : (m n k : ℕ) → n ≡ k → (m ≡ n) ⊎ (m ≡ n + 1) → (m ≡ k) ⊎ (m ≡ k + 1)
at_most_once m n k e (inl h) = inl (h ∙ e)
at_most_once m n k e (inr h) = inr (h ∙ ap (λ i. i + 1) e)

and_none : (n : ℕ) → n + 0 ≡ n
and_none n = omega arith

pub none_and : (n : ℕ) → 0 + n ≡ n
none_and n = omega arith

sum_of : (k m n : ℕ) → k + (m + n) ≡ k + m + n
sum_of k m n = omega arith

module _ {Reg : Type 0} where
  pub pieces-append : (ss ts : List (Step Reg)) → pieces (ss ++ ts) ≡ pieces ss ++ pieces ts
  pieces-append [] ts = refl
  pieces-append (s ∷ ss) ts = ap (λ x. s.piece ++ x) (pieces-append ss ts) ∙ sym (append_assoc s.piece (pieces ss) (pieces ts))

  pub checkpoints-append : (ss ts : List (Step Reg)) → checkpoints (ss ++ ts) ≡ checkpoints ss + checkpoints ts
  checkpoints-append [] ts = sym (none_and (checkpoints ts))
  checkpoints-append (s ∷ ss) ts =
      ap (λ n. one_if s.checkpoint + n) (checkpoints-append ss ts) ∙ sum_of (one_if s.checkpoint) (checkpoints ss) (checkpoints ts)

  bytes-append : (ss ts : List (Step Reg)) → length (pieces (ss ++ ts)) ≡ length (pieces ss) + length (pieces ts)
  bytes-append ss ts = ap length (pieces-append ss ts) ∙ length-append (pieces ss) (pieces ts)

  -- frames that stay the same twice are the same
  pub same_frames_then : (v w x : View Reg) → SameFrames v w → SameFrames w x → SameFrames v x
  same_frames_then v w x h i = i ∙ ap (with_written (written_of x)) h

  -- when a frame ends, the frames that it began over are given back
  pub same_frames_ended : (fresh : Reg) (frame : FrameShape) (v w : View Reg) → SameFrames (beginning fresh frame v) w
      → SameFrames v (ending (restored_by frame v) w)
  same_frames_ended fresh no_frame v w h = h
  same_frames_ended fresh (stack_frame names name) v w h = ap (ending (restored_by (stack_frame names name) v)) h
  same_frames_ended fresh (sandboxed_frame names name) v w h = ap (ending (restored_by (sandboxed_frame names name) v)) h
  same_frames_ended fresh (isolated_frame names name) v w h = ap (ending (restored_by (isolated_frame names name) v)) h
  same_frames_ended fresh global_frame v w h = ap (ending (restored_by global_frame v)) h

  joined : (r : Run Reg) (next : Action Reg) → r.refusal ≡ None → and_then r next ≡ goes_on None r next
  joined r next e = ap (λ f. goes_on f r next) e

  stays : (r : Run Reg) (next : Action Reg) (refusal : Refusal) → r.refusal ≡ Some refusal → and_then r next ≡ r
  stays r next refusal e = ap (λ f. goes_on f r next) e

  -- one thing was done, and then the next
  whole_then : (r : Run Reg) (next : Action Reg) (b m a : Output) (w x : View Reg) → r.refusal ≡ None → Whole r b m w → Whole (next w) m a x
      → Whole (and_then r next) b a x
  whole_then r next b m a w x d h i =
      let i' = subst (λ u. Whole (next u) m a x) h.view i in
      subst (λ p. Whole p b a x) (sym (joined r next d)) (record {
        taken =
            i'.taken ∙ ap (λ t. t ++ written (next r.view)) h.taken ∙ append_assoc b.sunk.taken (written r) (written (next r.view))
            ∙ ap (λ t. b.sunk.taken ++ t) (sym (pieces-append r.steps (next r.view).steps));
        failures = i'.failures ∙ h.failures;
        turns =
            passes_at b.turns a.turns (checkpoints r.steps + checkpoints (next r.view).steps) (checkpoints (r.steps ++ (next r.view).steps))
            (sym (checkpoints-append r.steps (next r.view).steps))
            (passes_then b.turns m.turns a.turns (checkpoints r.steps) (checkpoints (next r.view).steps) h.turns i'.turns);
        bytes =
            passes_at b.bytes a.bytes (length (written r) + length (written (next r.view)))
            (length (pieces (r.steps ++ (next r.view).steps))) (sym (bytes-append r.steps (next r.view).steps))
            (passes_then b.bytes m.bytes a.bytes (length (written r)) (length (written (next r.view))) h.bytes i'.bytes);
        view = i'.view;
      })

  refusal_then : (r : Run Reg) (next : Action Reg) (w : View Reg) (f : Option Refusal) → r.refusal ≡ None → w ≡ r.view
      → (next w).refusal ≡ f → (and_then r next).refusal ≡ f
  refusal_then r next w f d h i = ap (λ p. p.refusal) (joined r next d) ∙ ap (λ u. (next u).refusal) (sym h) ∙ i

  -- what breaks off after all that was done before
  cause_then : (rs front : List (Step Reg)) (step : Step Reg) (part rest : List ℕ) (b m a : Output) (refusal : Refusal)
      → m.sunk.failures ≡ b.sunk.failures → Passes b.turns (checkpoints rs) m.turns → Passes b.bytes (length (pieces rs)) m.bytes
      → SinkFails step rest (checkpoints front) (length (pieces front)) m a refusal
      ⊎ GateRefuses step part (checkpoints front) (length (pieces front)) m a refusal
      → SinkFails step rest (checkpoints (rs ++ front)) (length (pieces (rs ++ front))) b a refusal
      ⊎ GateRefuses step part (checkpoints (rs ++ front)) (length (pieces (rs ++ front))) b a refusal
  cause_then rs front step part rest b m a refusal e t u (inl h) = inl (record {
    no_checkpoint = h.no_checkpoint;
    some_left = h.some_left;
    failures = h.failures ∙ ap (λ n. n + 1) e;
    turns =
        passes_at b.turns a.turns (checkpoints rs + checkpoints front) (checkpoints (rs ++ front)) (sym (checkpoints-append rs front))
        (passes_then b.turns m.turns a.turns (checkpoints rs) (checkpoints front) t h.turns);
    bytes =
        passes_at b.bytes a.bytes (length (pieces rs) + (length (pieces front) + length step.piece))
        (length (pieces (rs ++ front)) + length step.piece) (sum_of (length (pieces rs)) (length (pieces front)) (length step.piece)
        ∙ ap (λ n. n + length step.piece) (sym (bytes-append rs front)))
        (passes_then b.bytes m.bytes a.bytes (length (pieces rs)) (length (pieces front) + length step.piece) u h.bytes);
    reason = h.reason;
  })
  cause_then rs front step part rest b m a refusal e t u (inr h) = inr (record {
    nothing = h.nothing;
    failures = h.failures ∙ e;
    refused = refused_then h.refused;
    reason = h.reason;
  })
    where
      refused_then : ((step.checkpoint ≡ true) × Refuses m.turns (checkpoints front) 1 a.turns
          × Passes m.bytes (length (pieces front)) a.bytes) ⊎ ((0 < length step.piece) × Passes m.turns (checkpoints front) a.turns
          × Refuses m.bytes (length (pieces front)) (length step.piece) a.bytes)
          → ((step.checkpoint ≡ true) × Refuses b.turns (checkpoints (rs ++ front)) 1 a.turns
          × Passes b.bytes (length (pieces (rs ++ front))) a.bytes) ⊎ ((0 < length step.piece)
          × Passes b.turns (checkpoints (rs ++ front)) a.turns × Refuses b.bytes (length (pieces (rs ++ front)))
          (length step.piece) a.bytes)
      refused_then (inl x) = inl (
        x.0,
        refuses_at b.turns a.turns (checkpoints rs + checkpoints front) (checkpoints (rs ++ front)) 1 (sym (checkpoints-append rs front))
            (refuses_then b.turns m.turns a.turns (checkpoints rs) (checkpoints front) 1 t x.1),
        passes_at b.bytes a.bytes (length (pieces rs) + length (pieces front)) (length (pieces (rs ++ front))) (sym (bytes-append rs front))
            (passes_then b.bytes m.bytes a.bytes (length (pieces rs)) (length (pieces front)) u x.2),
      )
      refused_then (inr x) = inr (
        x.0,
        passes_at b.turns a.turns (checkpoints rs + checkpoints front) (checkpoints (rs ++ front)) (sym (checkpoints-append rs front))
            (passes_then b.turns m.turns a.turns (checkpoints rs) (checkpoints front) t x.1),
        refuses_at b.bytes a.bytes (length (pieces rs) + length (pieces front)) (length (pieces (rs ++ front))) (length step.piece)
            (sym (bytes-append rs front)) (refuses_then b.bytes m.bytes a.bytes (length (pieces rs)) (length (pieces front))
            (length step.piece) u x.2),
      )

  broken_then : (r : Run Reg) (next : Action Reg) (b m a : Output) (w x : View Reg) (refusal : Refusal) → r.refusal ≡ None → Whole r b m w
      → BrokenOff (next w) m a x refusal → BrokenOff (and_then r next) b a x refusal
  broken_then r next b m a w x refusal d h i =
      let i' = subst (λ u. BrokenOff (next u) m a x refusal) h.view i in
      subst (λ p. BrokenOff p b a x refusal) (sym (joined r next d)) (record {
        front = r.steps ++ i'.front;
        step = i'.step;
        later = i'.later;
        part = i'.part;
        rest = i'.rest;
        steps = ap (λ t. r.steps ++ t) i'.steps ∙ sym (append_assoc r.steps i'.front (i'.step ∷ i'.later));
        piece = i'.piece;
        taken =
            i'.taken ∙ ap (λ t. t ++ (pieces i'.front ++ i'.part)) h.taken
            ∙ append_assoc b.sunk.taken (written r) (pieces i'.front ++ i'.part)
            ∙ ap (λ t. b.sunk.taken ++ t) (sym (append_assoc (written r) (pieces i'.front) i'.part)
            ∙ ap (λ t. t ++ i'.part) (sym (pieces-append r.steps i'.front)));
        view = i'.view;
        cause = cause_then r.steps i'.front i'.step i'.part i'.rest b m a refusal h.failures h.turns h.bytes i'.cause;
      })

  cut_then : (r : Run Reg) (next : Action Reg) (b m a : Output) (w : View Reg) → r.refusal ≡ None → Whole r b m w → Cut (next w) m a
      → Cut (and_then r next) b a
  cut_then r next b m a w d h i =
      let i' = subst (λ u. Cut (next u) m a) h.view i in
      subst (λ p. Cut p b a) (sym (joined r next d)) (record {
        front = r.steps ++ i'.front;
        later = i'.later;
        part = written r ++ i'.part;
        rest = i'.rest;
        steps = ap (λ t. r.steps ++ t) i'.steps ∙ sym (append_assoc r.steps i'.front i'.later);
        pieces_are =
            pieces-append r.steps i'.front ∙ ap (λ t. written r ++ t) i'.pieces_are ∙ sym (append_assoc (written r) i'.part i'.rest);
        taken = i'.taken ∙ ap (λ t. t ++ i'.part) h.taken ∙ append_assoc b.sunk.taken (written r) i'.part;
        failures = at_most_once a.sunk.failures m.sunk.failures b.sunk.failures h.failures i'.failures;
        turns =
            up_to_at b.turns a.turns (checkpoints r.steps + checkpoints i'.front) (checkpoints (r.steps ++ i'.front))
            (sym (checkpoints-append r.steps i'.front))
            (up_to_then b.turns m.turns a.turns (checkpoints r.steps) (checkpoints i'.front) h.turns i'.turns);
        bytes =
            up_to_at b.bytes a.bytes (length (written r) + length (pieces i'.front)) (length (pieces (r.steps ++ i'.front)))
            (sym (bytes-append r.steps i'.front))
            (up_to_then b.bytes m.bytes a.bytes (length (written r)) (length (pieces i'.front)) h.bytes i'.bytes);
      })

  stopped_then : (r : Run Reg) (next : Action Reg) (b m a : Output) (w x : View Reg) (refusal : Refusal) → r.refusal ≡ None → Whole r b m w
      → Stopped (next w) m a x refusal → Stopped (and_then r next) b a x refusal
  stopped_then r next b m a w x refusal d h (inl i) =
      inl (whole_then r next b m a w x d h i.0, refusal_then r next w (Some refusal) d h.view i.1)
  stopped_then r next b m a w x refusal d h (inr i) = inr (broken_then r next b m a w x refusal d h i)

  told_then : (t : Option Refusal) (r : Run Reg) (next : Action Reg) (b m a : Output) (w x : View Reg) → r.refusal ≡ None → Whole r b m w
      → MatchOption t (Cut (next w) m a) (Stopped (next w) m a x) → MatchOption t (Cut (and_then r next) b a)
      (Stopped (and_then r next) b a x)
  told_then None r next b m a w x d h i = cut_then r next b m a w d h i
  told_then (Some refusal) r next b m a w x d h i = stopped_then r next b m a w x refusal d h i

  outcome_then : (r : Run Reg) (next : Action Reg) (b m a : Output) (w x : View Reg) (answer : Result (Unit {0}) Error) → r.refusal ≡ None
      → Whole r b m w → Outcome (next w) m a x answer → Outcome (and_then r next) b a x answer
  outcome_then r next b m a w x (Ok u) d h i = (whole_then r next b m a w x d h i.0, refusal_then r next w None d h.view i.1)
  outcome_then r next b m a w x (Err e) d h i = told_then (told e) r next b m a w x d h i

  -- a call that is done, and a call after it
  pub renders_then : (r : Run Reg) (next : Action Reg) (v w x : View Reg) (b m a : Output) (u : Unit {0}) (answer : Result (Unit {0}) Error)
      → RendersWithin r v b m w (Ok u) → RendersWithin (next w) w m a x answer → RendersWithin (and_then r next) v b a x answer
  renders_then r next v w x b m a u answer h i = record {
    outcome = outcome_then r next b m a w x answer h.outcome.1 h.outcome.0 i.outcome;
    frames = same_frames_then v w x h.frames i.frames;
    pours = pours_then b.sunk m.sunk a.sunk u answer h.pours i.pours;
  }

  -- what follows a refusal does not matter
  cut_first : (f : Option Refusal) (r : Run Reg) (next : Action Reg) (b a : Output) → Cut r b a → Cut (goes_on f r next) b a
  cut_first (Some refusal) r next b a h = h
  cut_first None r next b a h = record {
    front = h.front;
    later = h.later ++ (next r.view).steps;
    part = h.part;
    rest = h.rest;
    steps = ap (λ t. t ++ (next r.view).steps) h.steps ∙ append_assoc h.front h.later (next r.view).steps;
    pieces_are = h.pieces_are;
    taken = h.taken;
    failures = h.failures;
    turns = h.turns;
    bytes = h.bytes;
  }

  broken_first : (f : Option Refusal) (r : Run Reg) (next : Action Reg) (b a : Output) (x : View Reg) (refusal : Refusal)
      → BrokenOff r b a x refusal → BrokenOff (goes_on f r next) b a x refusal
  broken_first (Some own) r next b a x refusal h = h
  broken_first None r next b a x refusal h = record {
    front = h.front;
    step = h.step;
    later = h.later ++ (next r.view).steps;
    part = h.part;
    rest = h.rest;
    steps = ap (λ t. t ++ (next r.view).steps) h.steps ∙ append_assoc h.front (h.step ∷ h.later) (next r.view).steps;
    piece = h.piece;
    taken = h.taken;
    view = h.view;
    cause = h.cause;
  }

  stopped_first : (r : Run Reg) (next : Action Reg) (b a : Output) (x : View Reg) (refusal : Refusal) → Stopped r b a x refusal
      → Stopped (and_then r next) b a x refusal
  stopped_first r next b a x refusal (inl h) =
      inl (subst (λ p. Whole p b a x × (p.refusal ≡ Some refusal)) (sym (stays r next refusal h.1)) h)
  stopped_first r next b a x refusal (inr h) = inr (broken_first r.refusal r next b a x refusal h)

  told_first : (t : Option Refusal) (r : Run Reg) (next : Action Reg) (b a : Output) (x : View Reg)
      → MatchOption t (Cut r b a) (Stopped r b a x) → MatchOption t (Cut (and_then r next) b a) (Stopped (and_then r next) b a x)
  told_first None r next b a x h = cut_first r.refusal r next b a h
  told_first (Some refusal) r next b a x h = stopped_first r next b a x refusal h

  pub renders_first : (r : Run Reg) (next : Action Reg) (v x : View Reg) (b a : Output) (e : Error) → RendersWithin r v b a x (Err e)
      → RendersWithin (and_then r next) v b a x (Err e)
  renders_first r next v x b a e h = record { outcome = told_first (told e) r next b a x h.outcome; frames = h.frames; pours = h.pours }

  -- nothing is written
  pub renders_done : (v : View Reg) (b : Output) (u : Unit {0}) → RendersWithin (done v) v b b v (Ok u)
  renders_done v b u = record {
    outcome = (
      record {
        taken = sym (append-nil b.sunk.taken);
        failures = refl;
        turns = passes_none b.turns;
        bytes = passes_none b.bytes;
        view = refl;
      },
      refl,
    );
    frames = refl;
    pours = pours_nothing b.sunk u;
  }

  told_refused : (t : Option Refusal) (r : Run Reg) (x : View Reg) (b : Output) → IfSome t (λ refusal. r ≡ refuses refusal x)
      → MatchOption t (Cut r b b) (Stopped r b b x)
  told_refused None r x b h = record {
    front = [];
    later = r.steps;
    part = [];
    rest = [];
    steps = refl;
    pieces_are = refl;
    taken = sym (append-nil b.sunk.taken);
    failures = inl refl;
    turns = inl (passes_none b.turns);
    bytes = inl (passes_none b.bytes);
  }
  told_refused (Some refusal) r x b h =
      inl (subst (λ p. Whole p b b x × (p.refusal ≡ Some refusal)) (sym h) (
        record {
          taken = sym (append-nil b.sunk.taken);
          failures = refl;
          turns = passes_none b.turns;
          bytes = passes_none b.bytes;
          view = refl;
        },
        refl,
      ))

  -- a refusal that is the run's own, with nothing written; an out-of-memory error says nothing about the run
  pub renders_refused : (r : Run Reg) (v x : View Reg) (b : Output) (e : Error) → IfSome (told e) (λ refusal. r ≡ refuses refusal x)
      → SameFrames v x → RendersWithin r v b b x (Err e)
  renders_refused r v x b e h s = record { outcome = told_refused (told e) r x b h; frames = s; pours = pours_refused b.sunk e }

  -- seen from outside a frame and a trace
  pieces-outside : (restores : Restore Reg) (trace : Option (List ℕ)) (ss : List (Step Reg))
      → pieces (map (step_outside restores trace) ss) ≡ pieces ss
  pieces-outside restores trace [] = refl
  pieces-outside restores trace (s ∷ ss) = ap (λ t. s.piece ++ t) (pieces-outside restores trace ss)

  pub checkpoints-outside : (restores : Restore Reg) (trace : Option (List ℕ)) (ss : List (Step Reg))
      → checkpoints (map (step_outside restores trace) ss) ≡ checkpoints ss
  checkpoints-outside restores trace [] = refl
  checkpoints-outside restores trace (s ∷ ss) = ap (λ n. one_if s.checkpoint + n) (checkpoints-outside restores trace ss)

  pub map-middle : (f : Step Reg → Step Reg) (front : List (Step Reg)) (s : Step Reg) (later : List (Step Reg))
      → map f (front ++ s ∷ later) ≡ map f front ++ f s ∷ map f later
  map-middle f [] s later = refl
  map-middle f (x ∷ front) s later = ap (λ t. f x ∷ t) (map-middle f front s later)

  module _ (restores : Restore Reg) (trace : Option (List ℕ)) where
    whole_outside : (r : Run Reg) (b a : Output) (x : View Reg) → Whole r b a x → Whole (outside restores trace r) b a (ending restores x)
    whole_outside r b a x h = record {
      taken = h.taken ∙ ap (λ t. b.sunk.taken ++ t) (sym (pieces-outside restores trace r.steps));
      failures = h.failures;
      turns =
          passes_at b.turns a.turns (checkpoints r.steps) (checkpoints (map (step_outside restores trace) r.steps))
          (sym (checkpoints-outside restores trace r.steps)) h.turns;
      bytes =
          passes_at b.bytes a.bytes (length (written r)) (length (pieces (map (step_outside restores trace) r.steps)))
          (sym (ap length (pieces-outside restores trace r.steps))) h.bytes;
      view = ap (ending restores) h.view;
    }

    cause_outside : (step : Step Reg) (part rest : List ℕ) (t t' n n' : ℕ) (b a : Output) (refusal : Refusal) → t ≡ t' → n ≡ n'
        → SinkFails step rest t n b a refusal ⊎ GateRefuses step part t n b a refusal
        → SinkFails (step_outside restores trace step) rest t' n' b a (refused_through trace refusal)
        ⊎ GateRefuses (step_outside restores trace step) part t' n' b a (refused_through trace refusal)
    cause_outside step part rest t t' n n' b a refusal i j (inl h) = inl (record {
      no_checkpoint = h.no_checkpoint;
      some_left = h.some_left;
      failures = h.failures;
      turns = passes_at b.turns a.turns t t' i h.turns;
      bytes = passes_at b.bytes a.bytes (n + length step.piece) (n' + length step.piece) (ap (λ k. k + length step.piece) j) h.bytes;
      reason = ap (refused_through trace) h.reason;
    })
    cause_outside step part rest t t' n n' b a refusal i j (inr h) = inr (record {
      nothing = h.nothing;
      failures = h.failures;
      refused =
          subst (λ k. ((step.checkpoint ≡ true) × Refuses b.turns k 1 a.turns × Passes b.bytes n' a.bytes)
          ⊎ ((0 < length step.piece) × Passes b.turns k a.turns × Refuses b.bytes n' (length step.piece) a.bytes)) i
          (subst (λ k. ((step.checkpoint ≡ true) × Refuses b.turns t 1 a.turns × Passes b.bytes k a.bytes)
          ⊎ ((0 < length step.piece) × Passes b.turns t a.turns × Refuses b.bytes k (length step.piece) a.bytes)) j h.refused);
      reason = ap (refused_through trace) h.reason;
    })

    broken_outside : (r : Run Reg) (b a : Output) (x : View Reg) (refusal : Refusal) → BrokenOff r b a x refusal
        → BrokenOff (outside restores trace r) b a (ending restores x) (refused_through trace refusal)
    broken_outside r b a x refusal h = record {
      front = map (step_outside restores trace) h.front;
      step = step_outside restores trace h.step;
      later = map (step_outside restores trace) h.later;
      part = h.part;
      rest = h.rest;
      steps = ap (map (step_outside restores trace)) h.steps ∙ map-middle (step_outside restores trace) h.front h.step h.later;
      piece = h.piece;
      taken = h.taken ∙ ap (λ t. b.sunk.taken ++ (t ++ h.part)) (sym (pieces-outside restores trace h.front));
      view = ap (ending restores) h.view;
      cause =
          cause_outside h.step h.part h.rest (checkpoints h.front) (checkpoints (map (step_outside restores trace) h.front))
          (length (pieces h.front)) (length (pieces (map (step_outside restores trace) h.front))) b a refusal
          (sym (checkpoints-outside restores trace h.front)) (sym (ap length (pieces-outside restores trace h.front))) h.cause;
    }

    cut_outside : (r : Run Reg) (b a : Output) → Cut r b a → Cut (outside restores trace r) b a
    cut_outside r b a h = record {
      front = map (step_outside restores trace) h.front;
      later = map (step_outside restores trace) h.later;
      part = h.part;
      rest = h.rest;
      steps = ap (map (step_outside restores trace)) h.steps ∙ map-append (step_outside restores trace) h.front h.later;
      pieces_are = pieces-outside restores trace h.front ∙ h.pieces_are;
      taken = h.taken;
      failures = h.failures;
      turns =
          up_to_at b.turns a.turns (checkpoints h.front) (checkpoints (map (step_outside restores trace) h.front))
          (sym (checkpoints-outside restores trace h.front)) h.turns;
      bytes =
          up_to_at b.bytes a.bytes (length (pieces h.front)) (length (pieces (map (step_outside restores trace) h.front)))
          (sym (ap length (pieces-outside restores trace h.front))) h.bytes;
    }

    stopped_outside : (r : Run Reg) (b a : Output) (x : View Reg) (refusal : Refusal) → Stopped r b a x refusal
        → Stopped (outside restores trace r) b a (ending restores x) (refused_through trace refusal)
    stopped_outside r b a x refusal (inl h) = inl (whole_outside r b a x h.0, ap (option_map (refused_through trace)) h.1)
    stopped_outside r b a x refusal (inr h) = inr (broken_outside r b a x refusal h)

    -- a refusal whose trace found no memory is cut
    gate_turns : (step : Step Reg) (part : List ℕ) (t n : ℕ) (b a : Output) (refusal : Refusal) → GateRefuses step part t n b a refusal
        → PassesUpTo b.turns t a.turns
    gate_turns step part t n b a refusal g =
        elim g.refused as (λ _. PassesUpTo b.turns t a.turns) [ inl x ↦ inr (1, x.1) | inr x ↦ inl x.1 ]

    gate_bytes : (step : Step Reg) (part : List ℕ) (t n : ℕ) (b a : Output) (refusal : Refusal) → GateRefuses step part t n b a refusal
        → PassesUpTo b.bytes n a.bytes
    gate_bytes step part t n b a refusal g =
        elim g.refused as (λ _. PassesUpTo b.bytes n a.bytes) [ inl x ↦ inl x.2 | inr x ↦ inr (length step.piece, x.2) ]

    no_turn : (front : List (Step Reg)) (step : Step Reg) → step.checkpoint ≡ false → checkpoints front ≡ checkpoints (front ++ step ∷ [])
    no_turn front step e =
        sym (checkpoints-append front (step ∷ []) ∙ ap (λ c. checkpoints front + (one_if c + 0)) e ∙ and_none (checkpoints front))

    with_piece : (front : List (Step Reg)) (step : Step Reg) → length (pieces front) + length step.piece ≡ length
        (pieces (front ++ step ∷ []))
    with_piece front step = sym (bytes-append front (step ∷ []) ∙ ap (λ t. length (pieces front) + length t) (append-nil step.piece))

    broken_cut : (r : Run Reg) (b a : Output) (x : View Reg) (refusal : Refusal) → BrokenOff r b a x refusal → Cut r b a
    broken_cut r b a x refusal h = of_cause h.cause
      where
        of_cause : SinkFails h.step h.rest (checkpoints h.front) (length (pieces h.front)) b a refusal
            ⊎ GateRefuses h.step h.part (checkpoints h.front) (length (pieces h.front)) b a refusal → Cut r b a
        of_cause (inl f) = record {
          front = h.front ++ h.step ∷ [];
          later = h.later;
          part = pieces h.front ++ h.part;
          rest = h.rest;
          steps = h.steps ∙ sym (append_assoc h.front (h.step ∷ []) h.later);
          pieces_are =
              pieces-append h.front (h.step ∷ []) ∙ ap (λ t. pieces h.front ++ t) (append-nil h.step.piece ∙ h.piece)
              ∙ sym (append_assoc (pieces h.front) h.part h.rest);
          taken = h.taken;
          failures = inr f.failures;
          turns =
              inl (passes_at b.turns a.turns (checkpoints h.front) (checkpoints (h.front ++ h.step ∷ []))
              (no_turn h.front h.step f.no_checkpoint) f.turns);
          bytes =
              inl (passes_at b.bytes a.bytes (length (pieces h.front) + length h.step.piece) (length (pieces (h.front ++ h.step ∷ [])))
              (with_piece h.front h.step) f.bytes);
        }
        of_cause (inr g) = record {
          front = h.front;
          later = h.step ∷ h.later;
          part = pieces h.front ++ h.part;
          rest = [];
          steps = h.steps;
          pieces_are = sym (append-nil (pieces h.front ++ h.part) ∙ ap (λ t. pieces h.front ++ t) g.nothing ∙ append-nil (pieces h.front));
          taken = h.taken;
          failures = inl g.failures;
          turns = gate_turns h.step h.part (checkpoints h.front) (length (pieces h.front)) b a refusal g;
          bytes = gate_bytes h.step h.part (checkpoints h.front) (length (pieces h.front)) b a refusal g;
        }

    stopped_cut : (r : Run Reg) (b a : Output) (x : View Reg) (refusal : Refusal) → Stopped r b a x refusal → Cut r b a
    stopped_cut r b a x refusal (inl h) = record {
      front = r.steps;
      later = [];
      part = written r;
      rest = [];
      steps = sym (append-nil r.steps);
      pieces_are = sym (append-nil (written r));
      taken = h.0.taken;
      failures = inl h.0.failures;
      turns = inl h.0.turns;
      bytes = inl h.0.bytes;
    }
    stopped_cut r b a x refusal (inr h) = broken_cut r b a x refusal h

    told_outside : (t t' : Option Refusal) (r : Run Reg) (b a : Output) (x : View Reg)
        → IfSome t' (λ refusal. option_map (refused_through trace) t ≡ Some refusal)
        → MatchOption t (Cut r b a) (Stopped r b a x) → MatchOption t' (Cut (outside restores trace r) b a)
        (Stopped (outside restores trace r) b a (ending restores x))
    told_outside None None r b a x e h = cut_outside r b a h
    told_outside (Some refusal) None r b a x e h = cut_outside r b a (stopped_cut r b a x refusal h)
    told_outside None (Some refusal') r b a x e h = cc
    told_outside (Some refusal) (Some refusal') r b a x e h =
        subst (Stopped (outside restores trace r) b a (ending restores x)) (some_is (refused_through trace refusal) refusal' e)
        (stopped_outside r b a x refusal h)

    outcome_outside : (answer answer' : Result (Unit {0}) Error) (r : Run Reg) (b a : Output) (x : View Reg)
        → ErrBecomes (refused_through trace) answer answer' → Outcome r b a x answer
        → Outcome (outside restores trace r) b a (ending restores x) answer'
    outcome_outside (Ok u) answer' r b a x e h =
        subst (Outcome (outside restores trace r) b a (ending restores x)) (sym e)
        (whole_outside r b a x h.0, ap (option_map (refused_through trace)) h.1)
    outcome_outside (Err old) (Ok u) r b a x e h = absurd e
    outcome_outside (Err old) (Err new) r b a x e h = told_outside (told old) (told new) r b a x e h

  -- a call under a frame: what was rendered inside, with the trace added to its error, is the rendering under the frame
  -- and the trace
  pub renders_under : (fresh : Reg) (frame : FrameShape) (trace : Option (List ℕ)) (inner : Action Reg) (v w : View Reg) (b a : Output)
      (answer answer' : Result (Unit {0}) Error) → ErrBecomes (refused_through trace) answer answer'
      → RendersWithin (inner (beginning fresh frame v)) (beginning fresh frame v) b a w answer
      → RendersWithin (under fresh frame trace inner v) v b a (ending (restored_by frame v) w) answer'
  unfolding under
  renders_under fresh frame trace inner v w b a answer answer' e h = record {
    outcome = outcome_outside (restored_by frame v) trace answer answer' (inner (beginning fresh frame v)) b a w e h.outcome;
    frames = same_frames_ended fresh frame v w h.frames;
    pours = pours_through (refused_through trace) b.sunk a.sunk answer answer' e h.pours;
  }
