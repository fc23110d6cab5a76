-- What is rendered to a text of its own, as the sink sees it, and how the text is opened and closed.
use Rattle.std.proofs.Common.{
  ◌≡◌,
  ℕ,
  ◌+◌,
  ◌<◌,
  true,
  List,
  [],
  ◌∷◌,
  ◌++◌,
  length,
  map,
  Option,
  Some,
  None,
  Result,
  Ok,
  Err,
  ◌⊎◌,
  inl,
  inr,
  refl,
  sym,
  ap,
  subst,
  ◌∙◌,
  arith,
  IsSome,
}
use Rattle.std.specs.Prelude.{MatchOption, IfSome}
use Rattle.std.proofs.lemmas.List.{append-nil, map-append}
use Rattle.std.proofs.lemmas.Option.{same_Some, none-some}
use Rattle.liquid_error.specs.declared.error.Error.{Error}
use Rattle.liquid_error.specs.meaning.Refusal.{Refusal}
use Rattle.liquid_error.specs.meaning.Told.{told}
use Rattle.liquid_runtime.specs.meaning.View.{View}
use Rattle.liquid_template.specs.meaning.Output.{Output, Passed, Passes, Refuses, PassesUpTo}
use Rattle.liquid_template.specs.meaning.Run.{Step, Run, pieces, written, one_if, checkpoints}
use Rattle.liquid_template.specs.meaning.Actions.{silent_step, silent}
use Rattle.liquid_template.specs.meaning.Pours.{Pours}
use Rattle.liquid_template.specs.meaning.Outcome.{Whole, SinkFails, GateRefuses, BrokenOff, Cut, Stopped, Outcome, RendersWithin}
use Rattle.liquid_template.specs.steps.Going.{Aside}
use Rattle.liquid_template.specs.steps.Place.{Place, place, target, target_of, around, around_of, Swapped}
use Rattle.liquid_template.proofs.Joins.{map-middle}
use Rattle.liquid_template.proofs.Passing.{passes_none, passes_at, up_to_at, refuses_at}
use Rattle.liquid_template.proofs.Pouring.{pours_nothing, pours_refused}

abbrev Answer : Type 0
Answer = Result (Unit {0}) Error

no_more : (m n : ℕ) → m ≡ n → m ≡ n + 1 → ⊥
no_more m n e h = omega (arith, e, h)

module _ {Reg : Type 0} where
  pieces-silent : (ss : List (Step Reg)) → pieces (map silent_step ss) ≡ []
  pieces-silent [] = refl
  pieces-silent (s ∷ ss) = pieces-silent ss

  pub checkpoints-silent : (ss : List (Step Reg)) → checkpoints (map silent_step ss) ≡ checkpoints ss
  checkpoints-silent [] = refl
  checkpoints-silent (s ∷ ss) = ap (λ n. one_if s.checkpoint + n) (checkpoints-silent ss)

module _ (b o d : Output) (empty : o.sunk.taken ≡ []) (no_bytes : o.bytes ≡ None) (turns : o.turns ≡ b.turns)
    (failures : d.sunk.failures ≡ o.sunk.failures) where
  abbrev after : Output
  after = record b { turns = d.turns }

  turns_passed : (n : ℕ) → Passes o.turns n d.turns → Passes b.turns n d.turns
  turns_passed n h = subst (λ t. Passes t n d.turns) turns h

  never_bytes : (n more : ℕ) → Refuses o.bytes n more d.bytes → ⊥
  never_bytes n more h = subst (λ x. Refuses x n more d.bytes) no_bytes h

  pours_silent : (answer : Answer) → Pours b.sunk b.sunk answer
  pours_silent (Ok u) = pours_nothing b.sunk u
  pours_silent (Err e) = pours_refused b.sunk e

  module _ {Reg : Type 0} where
    nothing_taken : (ss : List (Step Reg)) → b.sunk.taken ≡ b.sunk.taken ++ pieces (map silent_step ss)
    nothing_taken ss = sym (ap (λ t. b.sunk.taken ++ t) (pieces-silent ss) ∙ append-nil b.sunk.taken)

    bytes_none : (ss : List (Step Reg)) → Passes b.bytes (length (pieces (map silent_step ss))) b.bytes
    bytes_none ss =
        passes_at b.bytes b.bytes 0 (length (pieces (map silent_step ss))) (sym (ap length (pieces-silent ss))) (passes_none b.bytes)

    whole_silent : (r : Run Reg) (x : View Reg) → Whole r o d x → Whole (silent r) b after x
    whole_silent r x h = record {
      taken = nothing_taken r.steps;
      failures = refl;
      turns =
          passes_at b.turns d.turns (checkpoints r.steps) (checkpoints (map silent_step r.steps)) (sym (checkpoints-silent r.steps))
          (turns_passed (checkpoints r.steps) h.turns);
      bytes = bytes_none r.steps;
      view = h.view;
    }

    cause_silent : (front : List (Step Reg)) (step : Step Reg) (part rest : List ℕ) (refusal : Refusal)
        → SinkFails step rest (checkpoints front) (length (pieces front)) o d refusal
        ⊎ GateRefuses step part (checkpoints front) (length (pieces front)) o d refusal
        → SinkFails (silent_step step) [] (checkpoints (map silent_step front)) (length (pieces (map silent_step front))) b after refusal
        ⊎ GateRefuses (silent_step step) [] (checkpoints (map silent_step front))
        (length (pieces (map silent_step front))) b after refusal
    cause_silent front step part rest refusal (inl h) = absurd (no_more d.sunk.failures o.sunk.failures failures h.failures)
    cause_silent front step part rest refusal (inr h) =
        inr (record { nothing = refl; failures = refl; refused = refused_silent h.refused; reason = h.reason })
      where
        refused_silent : ((step.checkpoint ≡ true) × Refuses o.turns (checkpoints front) 1 d.turns
            × Passes o.bytes (length (pieces front)) d.bytes) ⊎ ((0 < length step.piece) × Passes o.turns (checkpoints front) d.turns
            × Refuses o.bytes (length (pieces front)) (length step.piece) d.bytes)
            → ((step.checkpoint ≡ true) × Refuses b.turns (checkpoints (map silent_step front)) 1 d.turns
            × Passes b.bytes (length (pieces (map silent_step front))) b.bytes)
            ⊎ ((0 < 0) × Passes b.turns (checkpoints (map silent_step front)) d.turns
            × Refuses b.bytes (length (pieces (map silent_step front))) 0 b.bytes)
        refused_silent (inl x) = inl (
          x.0,
          refuses_at b.turns d.turns (checkpoints front) (checkpoints (map silent_step front)) 1 (sym (checkpoints-silent front))
              (subst (λ t. Refuses t (checkpoints front) 1 d.turns) turns x.1),
          bytes_none front,
        )
        refused_silent (inr x) = absurd (never_bytes (length (pieces front)) (length step.piece) x.2)

    broken_silent : (r : Run Reg) (x : View Reg) (refusal : Refusal) → BrokenOff r o d x refusal → BrokenOff (silent r) b after x refusal
    broken_silent r x refusal h = record {
      front = map silent_step h.front;
      step = silent_step h.step;
      later = map silent_step h.later;
      part = [];
      rest = [];
      steps = ap (map silent_step) h.steps ∙ map-middle silent_step h.front h.step h.later;
      piece = refl;
      taken = nothing_taken h.front ∙ ap (λ t. b.sunk.taken ++ t) (sym (append-nil (pieces (map silent_step h.front))));
      view = h.view;
      cause = cause_silent h.front h.step h.part h.rest refusal h.cause;
    }

    cut_silent : (r : Run Reg) → Cut r o d → Cut (silent r) b after
    cut_silent r h = record {
      front = map silent_step h.front;
      later = map silent_step h.later;
      part = [];
      rest = [];
      steps = ap (map silent_step) h.steps ∙ map-append silent_step h.front h.later;
      pieces_are = pieces-silent h.front;
      taken = sym (append-nil b.sunk.taken);
      failures = inl refl;
      turns =
          up_to_at b.turns d.turns (checkpoints h.front) (checkpoints (map silent_step h.front)) (sym (checkpoints-silent h.front))
          (subst (λ t. PassesUpTo t (checkpoints h.front) d.turns) turns h.turns);
      bytes = inl (bytes_none h.front);
    }

    stopped_silent : (r : Run Reg) (x : View Reg) (refusal : Refusal) → Stopped r o d x refusal → Stopped (silent r) b after x refusal
    stopped_silent r x refusal (inl h) = inl (whole_silent r x h.0, h.1)
    stopped_silent r x refusal (inr h) = inr (broken_silent r x refusal h)

    told_silent : (t : Option Refusal) (r : Run Reg) (x : View Reg) → MatchOption t (Cut r o d) (Stopped r o d x)
        → MatchOption t (Cut (silent r) b after) (Stopped (silent r) b after x)
    told_silent None r x h = cut_silent r h
    told_silent (Some refusal) r x h = stopped_silent r x refusal h

    outcome_silent : (r : Run Reg) (x : View Reg) (answer : Answer) → Outcome r o d x answer → Outcome (silent r) b after x answer
    outcome_silent r x (Ok u) h = (whole_silent r x h.0, h.1)
    outcome_silent r x (Err e) h = told_silent (told e) r x h

    silent_after : (r : Run Reg) (v x : View Reg) (answer : Answer) → RendersWithin r v o d x answer
        → RendersWithin (silent r) v b after x answer
    silent_after r v x answer h = record { outcome = outcome_silent r x answer h.outcome; frames = h.frames; pours = pours_silent answer }

module _ {Reg : Type 0} where
  -- the sink sees nothing of what was rendered aside
  pub renders_silent : (r : Run Reg) (v x : View Reg) (b o d c : Output) (answer : Answer) → Aside b o d c → RendersWithin r v o d x answer
      → RendersWithin (silent r) v b c x answer
  renders_silent r v x b o d c answer a h =
      subst (λ y. RendersWithin (silent r) v b y x answer) (sym a.back)
      (silent_after b o d a.empty a.no_bytes a.turns a.failures r v x answer h)

  -- and the text is all that the run writes
  pub text_silent : (r : Run Reg) (v x : View Reg) (b o d c : Output) (u : Unit {0}) → Aside b o d c → RendersWithin r v o d x (Ok u)
      → d.sunk.taken ≡ written r
  text_silent r v x b o d c u a h = h.outcome.0.taken ∙ ap (λ t. t ++ written r) a.empty

some_around : (o x : Output) (text : Option (List ℕ)) (n m : ℕ) (t : List ℕ) → around_of o text n ≡ around_of x (Some t) m
    → (o ≡ record x { turns = o.turns }) × (text ≡ Some (target_of o text).sunk.taken) × (n ≡ m)
some_around o x None n m t e = absurd (none-some x.sunk (ap (λ y. y.sunk) e))
some_around o x (Some text) n m t e = (
  ap (λ s. record { sunk = s; turns = o.turns; bytes = o.bytes }) (same_Some o.sunk x.sunk (ap (λ y. y.sunk) e))
      ∙ ap (λ s. record { sunk = x.sunk; turns = o.turns; bytes = s }) (same_Some o.bytes x.bytes (ap (λ y. y.bytes) e)),
  refl,
  ap (λ y. y.sink_name) e,
)

-- when what was rendered to the text is done, the rest is as it was when the text opened: only turns were asked of the
-- sink's output
stood : (p b a : Place) → Swapped p (Some []) b → around a ≡ around b
    → a ≡ place (record p.output { turns = a.output.turns }) (Some (target a).sunk.taken) p.sink_name
stood p b a e h =
    let s = some_around a.output p.output a.text a.sink_name p.sink_name [] (h ∙ ap around e.is) in
    let o = record p.output { turns = a.output.turns } in
    ap (λ x. place x a.text a.sink_name) s.0 ∙ ap (λ x. place o x a.sink_name) s.1 ∙ ap (λ x. place o (Some (target a).sunk.taken) x) s.2

pub text_stays : (p b a : Place) → Swapped p (Some []) b → around a ≡ around b → IsSome a.text
text_stays p b a e h = subst (λ x. IsSome x.text) (sym (stood p b a e h)) refl

closed_is : (p b a q : Place) (outer : Option (List ℕ)) → Swapped p (Some []) b → around a ≡ around b → outer ≡ p.text → Swapped a outer q
    → q ≡ place (record p.output { turns = a.output.turns }) p.text p.sink_name
closed_is p b a q outer e h o i =
    i.is ∙ ap (λ x. place x.output outer x.sink_name) (stood p b a e h)
    ∙ ap (λ x. place (record p.output { turns = a.output.turns }) x p.sink_name) o

around_turns : (o : Output) (turns : Option Passed) (text : Option (List ℕ)) (n : ℕ)
    → around_of (record o { turns = turns }) text n ≡ around_of o text n
around_turns o turns None n = refl
around_turns o turns (Some text) n = refl

-- what is around the outer text stays
pub closed_around : (p b a q : Place) (outer : Option (List ℕ)) → Swapped p (Some []) b → around a ≡ around b → outer ≡ p.text
    → Swapped a outer q → around q ≡ around p
closed_around p b a q outer e h o i = ap around (closed_is p b a q outer e h o i) ∙ around_turns p.output a.output.turns p.text p.sink_name

target_turns : (o : Output) (turns : Option Passed) (text : Option (List ℕ))
    → target_of (record o { turns = turns }) text ≡ record (target_of o text) { turns = turns }
target_turns o turns None = refl
target_turns o turns (Some text) = refl

opened_turns : (o : Output) (text : Option (List ℕ)) → (target_of o text).turns ≡ o.turns
opened_turns o None = refl
opened_turns o (Some text) = refl

pub closed_aside : (p b a q : Place) (outer : Option (List ℕ)) → Swapped p (Some []) b → around a ≡ around b → outer ≡ p.text
    → Swapped a outer q → Aside (target p) (target b) (target a) (target q)
closed_aside p b a q outer e h o i = record {
  empty = ap (λ x. (target x).sunk.taken) e.is;
  no_bytes = ap (λ x. (target x).bytes) e.is;
  turns = ap (λ x. (target x).turns) e.is ∙ sym (opened_turns p.output p.text);
  failures = ap (λ x. (target x).sunk.failures) (stood p b a e h) ∙ sym (ap (λ x. (target x).sunk.failures) e.is);
  back =
      ap target (closed_is p b a q outer e h o i) ∙ target_turns p.output a.output.turns p.text
      ∙ ap (λ t. record (target p) { turns = t }) (sym (opened_turns a.output a.text));
}

-- what holds of the open text holds of what was rendered to it
pub text_caught : (P : List ℕ → Type 0) (p b a : Place) → Swapped p (Some []) b → around a ≡ around b → IfSome a.text P
    → P (target a).sunk.taken
text_caught P p b a e h i = subst (λ t. IfSome t P) (ap (λ x. x.text) (stood p b a e h)) i

-- a tag has no part, so its text is empty
abbrev pub nothing_open : Output → Output
nothing_open b = record { sunk = record { taken = []; failures = 0; destination = None; lent = [] }; turns = b.turns; bytes = None }

pub nothing_aside : (b : Output) → Aside b (nothing_open b) (nothing_open b) b
nothing_aside b = record { empty = refl; no_bytes = refl; turns = refl; failures = refl; back = refl }
