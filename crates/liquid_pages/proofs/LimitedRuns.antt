-- A rendering that asks limits is that of the run under limits.
use Rattle.std.proofs.Common.{
  ◌≡◌,
  ℕ,
  ◌+◌,
  ◌-◌,
  ◌≤◌,
  ◌<◌,
  Bool,
  true,
  false,
  ◌&&◌,
  ◌⊎◌,
  inl,
  inr,
  List,
  [],
  ◌∷◌,
  ◌++◌,
  length,
  Option,
  None,
  Some,
  Result,
  Ok,
  Err,
  arith,
  refl,
  sym,
  ap,
  subst,
  ◌∙◌,
  append_assoc,
  min,
}
use Rattle.std.specs.Prelude.{MatchOption, nat_le, if◌then◌else◌, IfSome}
use Rattle.std.proofs.Math.Nat.{min-le_right}
use Rattle.std.proofs.lemmas.Bool.{le-leb, lt-leb}
use Rattle.std.proofs.lemmas.List.{append-nil, length-append}
use Rattle.liquid_error.specs.declared.error.Error.{Error}
use Rattle.liquid_error.specs.meaning.Refusal.{Refusal}
use Rattle.liquid_error.specs.meaning.Told.{told}
use Rattle.liquid_runtime.specs.meaning.View.{View}
use Rattle.liquid_template.specs.meaning.Outcome.{BrokenOff, Cut, GateRefuses, Outcome, Renders, RendersWithin, SinkFails, Stopped, Whole}
use Rattle.liquid_template.specs.meaning.Output.{Gated, Output, Passed, Passes, PassesUpTo, Refuses, gated, gated_by, passed, ungated}
use Rattle.liquid_template.specs.meaning.Run.{Run, Step, checkpoints, one_if, pieces, written}
use Rattle.liquid_template.specs.meaning.Pours.{Pours}
use Rattle.liquid_template.specs.meaning.Sunk.{Sunk, borrowed}
use Rattle.liquid_template.specs.declared.gate.Limits.{Limits}
use Rattle.liquid_template.proofs.Framing.{first_is, later_are}
use Rattle.liquid_template.proofs.Joins.{checkpoints-append, pieces-append}
use Rattle.liquid_pages.specs.declared.options.Room.{Room}
use Rattle.liquid_pages.specs.meaning.Limited.{fresh_gate, has_room, room_after, run_within, steps_within, stopped_at, with_step}

le_true : (m n : ℕ) → m ≤ n → nat_le m n ≡ true
le_true m n h = le-leb m n h

le_false : (m n : ℕ) → n < m → nat_le m n ≡ false
le_false m n h = lt-leb m n h

both : (a b : Bool) → a ≡ true → b ≡ true → (a && b) ≡ true
both a b h i = rw h (rw i refl)

not_first : (a b : Bool) → a ≡ false → (a && b) ≡ false
not_first a b h = rw h refl

not_second : (a b : Bool) → b ≡ false → (a && b) ≡ false
not_second true b h = h
not_second false b h = refl

left_over : (a b c : ℕ) → a - b - c ≡ a - (b + c)
left_over a b c = omega arith

none_less : (n : ℕ) → n ≡ n - 0
none_less n = omega arith

module _ {Reg : Type 0} where
  abbrev with_front : List (Step Reg) → Run Reg → Run Reg
  with_front front r = record r { steps = front ++ r.steps }

  abbrev room_past : Room → List (Step Reg) → Room
  room_past room front = record { turns = room.turns - checkpoints front; bytes = room.bytes - length (pieces front) }

  fits : (room : Room) (step : Step Reg) → one_if step.checkpoint ≤ room.turns → length step.piece ≤ room.bytes → has_room room step ≡ true
  fits room step h i =
      both (nat_le (one_if step.checkpoint) room.turns) (nat_le (length step.piece) room.bytes)
      (le_true (one_if step.checkpoint) room.turns h) (le_true (length step.piece) room.bytes i)

  pieces_first : (step : Step Reg) (front : List (Step Reg)) → length (pieces (step ∷ front)) ≡ length step.piece + length (pieces front)
  pieces_first step front = length-append step.piece (pieces front)

  past_first : (room : Room) (step : Step Reg) (front : List (Step Reg))
      → room_past (room_after room step) front ≡ room_past room (step ∷ front)
  past_first room step front =
      ap (λ n. record { turns = n; bytes = room.bytes - length step.piece - length (pieces front) })
      (left_over room.turns (one_if step.checkpoint) (checkpoints front))
      ∙ ap (λ n. record { turns = room.turns - (one_if step.checkpoint + checkpoints front); bytes = n })
      (left_over room.bytes (length step.piece) (length (pieces front)) ∙ ap (λ n. room.bytes - n) (sym (pieces_first step front)))

  -- steps for which there is room stay
  front_stays : (room : Room) (front more : List (Step Reg)) (refusal : Option Refusal) (v : View Reg) → checkpoints front ≤ room.turns
      → length (pieces front) ≤ room.bytes
      → steps_within room (front ++ more) refusal v ≡ with_front front (steps_within (room_past room front) more refusal v)
  front_stays room [] more refusal v h i =
      ap (λ n. with_front [] (steps_within (record room { turns = n }) more refusal v)) (none_less room.turns)
      ∙ ap (λ n. with_front [] (steps_within (record { turns = room.turns - 0; bytes = n }) more refusal v)) (none_less room.bytes)
  front_stays room (step ∷ front) more refusal v h i =
      let turns : one_if step.checkpoint + checkpoints front ≤ room.turns = h in
      let bytes : length step.piece + length (pieces front) ≤ room.bytes = subst (λ n. n ≤ room.bytes) (pieces_first step front) i in
      let rest = front_stays (room_after room step) front more refusal v (omega (arith, turns)) (omega (arith, bytes)) in
      ap (λ b. if b then with_step step (steps_within (room_after room step) (front ++ more) refusal v) else stopped_at step)
      (fits room step (omega (arith, turns)) (omega (arith, bytes)))
      ∙ ap (with_step step) rest
      ∙ ap (λ x. with_front (step ∷ front) (steps_within x more refusal v)) (past_first room step front)

  -- a run for which there is room is itself
  all_stays : (room : Room) (r : Run Reg) → checkpoints r.steps ≤ room.turns → length (written r) ≤ room.bytes → run_within room r ≡ r
  all_stays room r h i =
      ap (λ ss. steps_within room ss r.refusal r.view) (sym (append-nil r.steps)) ∙ front_stays room r.steps [] r.refusal r.view h i
      ∙ ap (λ ss. record r { steps = ss }) (append-nil r.steps)

  steps_stay : (room : Room) (r : Run Reg) (front later : List (Step Reg)) → r.steps ≡ front ++ later → checkpoints front ≤ room.turns
      → length (pieces front) ≤ room.bytes
      → (run_within room r).steps ≡ front ++ (steps_within (room_past room front) later r.refusal r.view).steps
  steps_stay room r front later is h i =
      ap (λ ss. (steps_within room ss r.refusal r.view).steps) is ∙ ap (λ p. p.steps) (front_stays room front later r.refusal r.view h i)

  -- a step for which there is none ends the run
  stops : (room : Room) (r : Run Reg) (front later : List (Step Reg)) (step : Step Reg) → r.steps ≡ front ++ step ∷ later
      → checkpoints front ≤ room.turns → length (pieces front) ≤ room.bytes
      → has_room (room_past room front) step ≡ false → run_within room r ≡ with_front front (stopped_at step)
  stops room r front later step is h i none =
      ap (λ ss. steps_within room ss r.refusal r.view) is ∙ front_stays room front (step ∷ later) r.refusal r.view h i
      ∙ ap (λ b. with_front front (if b then with_step step (steps_within
      (room_after (room_past room front) step) later r.refusal r.view) else stopped_at step)) none

-- what limits say of counts: no more has passed than may pass in all
abbrev IsHeld : Option Passed → Type 0
IsHeld None = ⊥
IsHeld (Some p) = IfSome p.limit (λ limit. p.count ≤ limit)

abbrev fresh_count : ℕ → Option Passed
fresh_count limit = Some (passed 0 0 (Some limit))

passes_held : (limit n : ℕ) (after : Option Passed) → IsHeld after → Passes (fresh_count limit) n after → n ≤ limit
passes_held limit n after held is = let most : 0 + n ≤ limit = subst IsHeld is held in omega (arith, most)

refuses_held : (limit n more : ℕ) (after : Option Passed) → IsHeld after → Refuses (fresh_count limit) n more after → n ≤ limit
refuses_held limit n more after held is = let most : 0 + n ≤ limit = subst IsHeld is.0 held in omega (arith, most)

up_to_held : (limit n : ℕ) (after : Option Passed) → IsHeld after → PassesUpTo (fresh_count limit) n after → n ≤ limit
up_to_held limit n after held (inl is) = passes_held limit n after held is
up_to_held limit n after held (inr is) = refuses_held limit n is.0 after held is.1

no_turn_left : (limit n : ℕ) → n ≤ limit → limit < n + 1 → limit - n < 1
no_turn_left limit n h i = omega (arith, h, i)

no_bytes_left : (limit n more : ℕ) → n ≤ limit → limit < n + more → limit - n < more
no_bytes_left limit n more h i = omega (arith, h, i)

-- what such limits passed and refused
abbrev pub gated_of : Limits → Gated
gated_of l =
    gated_by (passed (min l.turns l.max_turns) l.turns_refused.failures (Some l.max_turns))
    (passed (min l.bytes l.max_bytes) l.bytes_refused.failures (Some l.max_bytes))

-- the sink is lent to the gate: it is borrowed under one name before, and under another one after
module _ {Reg : Type 0} (room : Room) (r : Run Reg) (entry left : View Reg) (before after : Sunk) (name later_name : ℕ) (gate : Gated)
    (turns_held : IsHeld (Some gate.turns)) (bytes_held : IsHeld (Some gate.bytes)) where
  abbrev At : Output
  At = gated (borrowed name before) (fresh_gate room)

  abbrev Then : Output
  Then = gated (borrowed later_name after) gate

  whole_limited : Whole r At Then left → Whole (run_within room r) (ungated before) (ungated after) left × (run_within room r ≡ r)
  whole_limited w =
      let stays =
      all_stays room r (passes_held room.turns (checkpoints r.steps) (Some gate.turns) turns_held w.turns)
      (passes_held room.bytes (length (written r)) (Some gate.bytes) bytes_held w.bytes) in (
        subst (λ p. Whole p (ungated before) (ungated after) left) (sym stays)
            (record { taken = w.taken; failures = w.failures; turns = refl; bytes = refl; view = w.view }),
        stays,
      )

  cut_limited : Cut r At Then → Cut (run_within room r) (ungated before) (ungated after)
  cut_limited c = record {
    front = c.front;
    later = (steps_within (room_past room c.front) c.later r.refusal r.view).steps;
    part = c.part;
    rest = c.rest;
    steps =
        steps_stay room r c.front c.later c.steps (up_to_held room.turns (checkpoints c.front) (Some gate.turns) turns_held c.turns)
        (up_to_held room.bytes (length (pieces c.front)) (Some gate.bytes) bytes_held c.bytes);
    pieces_are = c.pieces_are;
    taken = c.taken;
    failures = c.failures;
    turns = inl refl;
    bytes = inl refl;
  }

  -- the sink failed at a step that had passed
  no_turn : (front : List (Step Reg)) (step : Step Reg) → step.checkpoint ≡ false → checkpoints (front ++ step ∷ []) ≡ checkpoints front + 0
  no_turn front step e = checkpoints-append front (step ∷ []) ∙ ap (λ c. checkpoints front + (one_if c + 0)) e

  with_piece : (front : List (Step Reg)) (step : Step Reg) → length (pieces (front ++ step ∷ [])) ≡ length
      (pieces front) + length step.piece
  with_piece front step =
      ap length (pieces-append front (step ∷ [])) ∙ length-append (pieces front) (step.piece ++ [])
      ∙ ap (λ t. length (pieces front) + length t) (append-nil step.piece)

  fails_limited : (refusal : Refusal) (b : BrokenOff r At Then left refusal)
      → SinkFails b.step b.rest (checkpoints b.front) (length (pieces b.front)) At Then refusal
      → BrokenOff (run_within room r) (ungated before) (ungated after) left refusal
  fails_limited refusal b f =
      let turns : checkpoints b.front ≤ room.turns = passes_held room.turns (checkpoints b.front) (Some gate.turns) turns_held f.turns in
      let bytes : length (pieces b.front) + length b.step.piece ≤ room.bytes =
      passes_held room.bytes (length (pieces b.front) + length b.step.piece) (Some gate.bytes) bytes_held f.bytes in
      let front = b.front ++ b.step ∷ [] in
      record {
        front = b.front;
        step = b.step;
        later = (steps_within (room_past room front) b.later r.refusal r.view).steps;
        part = b.part;
        rest = b.rest;
        steps =
            steps_stay room r front b.later (b.steps ∙ sym (append_assoc b.front (b.step ∷ []) b.later))
            (rw (no_turn b.front b.step f.no_checkpoint) (omega (arith, turns))) (rw (with_piece b.front b.step) bytes)
            ∙ append_assoc b.front (b.step ∷ []) (steps_within (room_past room front) b.later r.refusal r.view).steps;
        piece = b.piece;
        taken = b.taken;
        view = b.view;
        cause =
            inl (record {
              no_checkpoint = f.no_checkpoint;
              some_left = f.some_left;
              failures = f.failures;
              turns = refl;
              bytes = refl;
              reason = f.reason;
            });
      }

  -- the gate refused a step for which there was no room
  no_room : (refusal : Refusal) (b : BrokenOff r At Then left refusal)
      → GateRefuses b.step b.part (checkpoints b.front) (length (pieces b.front)) At Then refusal
      → (checkpoints b.front ≤ room.turns) × ((length (pieces b.front) ≤ room.bytes) × (has_room (room_past room b.front) b.step ≡ false))
  no_room refusal b g = of_cause g.refused
    where
      of_cause : ((b.step.checkpoint ≡ true) × Refuses At.turns (checkpoints b.front) 1 Then.turns
          × Passes At.bytes (length (pieces b.front)) Then.bytes)
          ⊎ ((0 < length b.step.piece) × Passes At.turns (checkpoints b.front) Then.turns
          × Refuses At.bytes (length (pieces b.front)) (length b.step.piece) Then.bytes)
          → (checkpoints b.front ≤ room.turns) × ((length (pieces b.front) ≤ room.bytes)
          × (has_room (room_past room b.front) b.step ≡ false))
      of_cause (inl x) =
          let turns = refuses_held room.turns (checkpoints b.front) 1 (Some gate.turns) turns_held x.1 in
          let over : room.turns < 0 + checkpoints b.front + 1 = x.1.1 in (
            turns,
            (
              passes_held room.bytes (length (pieces b.front)) (Some gate.bytes) bytes_held x.2,
              not_first (nat_le (one_if b.step.checkpoint) (room.turns - checkpoints b.front))
                  (nat_le (length b.step.piece) (room.bytes - length (pieces b.front)))
                  (rw x.0 (le_false 1 (room.turns - checkpoints b.front) (no_turn_left room.turns (checkpoints b.front) turns
                  (omega (arith, over))))),
            ),
          )
      of_cause (inr x) =
          let bytes = refuses_held room.bytes (length (pieces b.front)) (length b.step.piece) (Some gate.bytes) bytes_held x.2 in
          let over : room.bytes < 0 + length (pieces b.front) + length b.step.piece = x.2.1 in (
            passes_held room.turns (checkpoints b.front) (Some gate.turns) turns_held x.1,
            (
              bytes,
              not_second (nat_le (one_if b.step.checkpoint) (room.turns - checkpoints b.front))
                  (nat_le (length b.step.piece) (room.bytes - length (pieces b.front)))
                  (le_false (length b.step.piece) (room.bytes - length (pieces b.front))
                  (no_bytes_left room.bytes (length (pieces b.front)) (length b.step.piece) bytes (omega (arith, over)))),
            ),
          )

  refused_limited : (refusal : Refusal) (b : BrokenOff r At Then left refusal)
      → GateRefuses b.step b.part (checkpoints b.front) (length (pieces b.front)) At Then refusal
      → Whole (run_within room r) (ungated before) (ungated after) left × ((run_within room r).refusal ≡ Some refusal)
  refused_limited refusal b g =
      let none = no_room refusal b g in
      let is = stops room r b.front b.later b.step b.steps none.0 none.1.0 none.1.1 in
      subst (λ p. Whole p (ungated before) (ungated after) left × (p.refusal ≡ Some refusal)) (sym is) (
        record {
          taken =
              b.taken ∙ ap (λ t. before.taken ++ (pieces b.front ++ t)) g.nothing
              ∙ ap (λ t. before.taken ++ t) (sym (pieces-append b.front []));
          failures = g.failures;
          turns = refl;
          bytes = refl;
          view = b.view;
        },
        ap Some (sym g.reason),
      )

  broken_limited : (refusal : Refusal) → BrokenOff r At Then left refusal
      → Stopped (run_within room r) (ungated before) (ungated after) left refusal
  broken_limited refusal b =
      elim b.cause as (λ _. Stopped (run_within room r) (ungated before) (ungated after) left refusal)
      [ inl f ↦ inr (fails_limited refusal b f) | inr g ↦ inl (refused_limited refusal b g) ]

  stopped_limited : (refusal : Refusal) → Stopped r At Then left refusal
      → Stopped (run_within room r) (ungated before) (ungated after) left refusal
  stopped_limited refusal (inl w) = inl ((whole_limited w.0).0, ap (λ p. p.refusal) (whole_limited w.0).1 ∙ w.1)
  stopped_limited refusal (inr b) = broken_limited refusal b

  told_limited : (t : Option Refusal) → MatchOption t (Cut r At Then) (Stopped r At Then left)
      → MatchOption t (Cut (run_within room r) (ungated before) (ungated after))
      (Stopped (run_within room r) (ungated before) (ungated after) left)
  told_limited None c = cut_limited c
  told_limited (Some refusal) s = stopped_limited refusal s

  outcome_limited : (answer : Result (Unit {0}) Error) → Outcome r At Then left answer
      → Outcome (run_within room r) (ungated before) (ungated after) left answer
  outcome_limited (Ok u) o = ((whole_limited o.0).0, ap (λ p. p.refusal) (whole_limited o.0).1 ∙ o.1)
  outcome_limited (Err e) o = told_limited (told e) o

  pours_limited : (answer : Result (Unit {0}) Error) → Pours (borrowed name before) (borrowed later_name after) answer
      → Pours before after answer
  pours_limited answer p = record {
    grows = record { more = p.grows.more; taken_is = p.grows.taken_is; destination_is = p.grows.destination_is };
    lent = later_are later_name name after.lent before.lent p.lent;
    text = p.text;
  }

  pub renders_limited : (answer : Result (Unit {0}) Error) → RendersWithin r entry At Then left answer
      → Renders (run_within room r) entry before after left answer
  renders_limited answer h = record { outcome = outcome_limited answer h.outcome; frames = h.frames; pours = pours_limited answer h.pours }

-- the limits that a gate leaves destination hold, whatever it was asked
pub limits_render : {Reg : Type 0} (room : Room) (r : Run Reg) (entry left : View Reg) (before after : Sunk) (name later_name : ℕ)
    (first : Gated) (limits : Limits) (answer : Result (Unit {0}) Error)
    → first ≡ fresh_gate room → RendersWithin r entry (gated (borrowed name before) first)
    (gated (borrowed later_name after) (gated_of limits)) left answer
    → Renders (run_within room r) entry before after left answer
limits_render room r entry left before after name later_name first limits answer is h =
    renders_limited room r entry left before after name later_name (gated_of limits) (min-le_right limits.turns limits.max_turns)
    (min-le_right limits.bytes limits.max_bytes) answer
    (subst (λ f. RendersWithin r entry (gated (borrowed name before) f) (gated (borrowed later_name after) (gated_of limits)) left answer)
    is h)

-- the sink that was lent is the same one
pub same_name : {Reg : Type 0} (r : Run Reg) (entry left : View Reg) (before after : Sunk) (name later_name : ℕ) (first later : Gated)
    (answer : Result (Unit {0}) Error)
    → RendersWithin r entry (gated (borrowed name before) first) (gated (borrowed later_name after) later) left answer → later_name ≡ name
same_name r entry left before after name later_name first later answer h = first_is later_name name after.lent before.lent h.pours.lent
