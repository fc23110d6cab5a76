-- The outcome of one piece that is put out.
use Rattle.std.proofs.Common.{
  ◌≡◌,
  ℕ,
  ◌+◌,
  false,
  List,
  [],
  ◌∷◌,
  ◌++◌,
  length,
  Option,
  Some,
  None,
  Result,
  Ok,
  Err,
  ◌⊎◌,
  inl,
  inr,
  refl,
  sym,
  ap,
  ◌∙◌,
}
use Rattle.std.specs.Prelude.{MatchOption}
use Rattle.std.proofs.lemmas.List.{append-nil}
use Rattle.liquid_error.specs.declared.error.Error.{Error}
use Rattle.liquid_error.specs.meaning.Refusal.{Refusal}
use Rattle.liquid_error.specs.meaning.Told.{told}
use Rattle.liquid_runtime.specs.meaning.View.{View}
use Rattle.liquid_template.specs.meaning.Run.{Step}
use Rattle.liquid_template.specs.meaning.Actions.{writes}
use Rattle.liquid_template.specs.meaning.Output.{Output, Passes, Refuses}
use Rattle.liquid_template.specs.meaning.Outcome.{SinkFails, GateRefuses, Cut, Stopped, Outcome, RendersWithin}
use Rattle.liquid_template.specs.steps.PieceOut.{PieceFails, PieceRefused, Partial, PieceTaken, PieceOut}
use Rattle.liquid_template.proofs.Joins.{none_and}
use Rattle.liquid_template.proofs.Passing.{passes_none, passes_at}

turns_same : (b a : Output) → a.turns ≡ b.turns → Passes b.turns 0 a.turns
turns_same b a e = e ∙ passes_none b.turns

module _ {Reg : Type 0} where
  abbrev put_step : List ℕ → View Reg → Step Reg
  put_step piece v = record { piece = piece; checkpoint = false; traces = []; at = v }

  put_cause : (piece part rest : List ℕ) (v : View Reg) (b a : Output) (refusal : Refusal) → a.turns ≡ b.turns
      → PieceFails piece rest b a refusal ⊎ PieceRefused piece part b a refusal
      → SinkFails (put_step piece v) rest 0 0 b a refusal ⊎ GateRefuses (put_step piece v) part 0 0 b a refusal
  put_cause piece part rest v b a refusal e (inl h) = inl (record {
    no_checkpoint = refl;
    some_left = h.some_left;
    failures = h.failures;
    turns = turns_same b a e;
    bytes = passes_at b.bytes a.bytes (length piece) (0 + length piece) (sym (none_and (length piece))) h.bytes;
    reason = h.reason;
  })
  put_cause piece part rest v b a refusal e (inr h) = inr (record {
    nothing = h.nothing;
    failures = h.failures;
    refused = inr (h.some_asked, turns_same b a e, h.bytes);
    reason = h.reason;
  })

  lost_cut : (piece : List ℕ) (v : View Reg) (b a : Output) (part rest : List ℕ) → a.turns ≡ b.turns → piece ≡ part ++ rest
      → a.sunk.taken ≡ b.sunk.taken ++ part
      → (a.sunk.failures ≡ b.sunk.failures) ⊎ (a.sunk.failures ≡ b.sunk.failures + 1) → Passes b.bytes (length piece) a.bytes
      ⊎ ((part ≡ []) × Refuses b.bytes 0 (length piece) a.bytes) → Cut (writes piece v) b a
  lost_cut piece v b a part rest e is taken failures (inl q) = record {
    front = put_step piece v ∷ [];
    later = [];
    part = part;
    rest = rest;
    steps = refl;
    pieces_are = append-nil piece ∙ is;
    taken = taken;
    failures = failures;
    turns = inl (turns_same b a e);
    bytes = inl (passes_at b.bytes a.bytes (length piece) (length (piece ++ [])) (sym (ap length (append-nil piece))) q);
  }
  lost_cut piece v b a part rest e is taken failures (inr q) = record {
    front = [];
    later = put_step piece v ∷ [];
    part = part;
    rest = [];
    steps = refl;
    pieces_are = sym (ap (λ t. t ++ []) q.0);
    taken = taken;
    failures = failures;
    turns = inl (turns_same b a e);
    bytes = inr (length piece, q.1);
  }

  told_put : (t : Option Refusal) (piece : List ℕ) (v : View Reg) (b a : Output) → a.turns ≡ b.turns → Partial piece b a t
      → MatchOption t (Cut (writes piece v) b a) (Stopped (writes piece v) b a v)
  told_put None piece v b a e p = lost_cut piece v b a p.part p.rest e p.is p.taken p.cause.failures p.cause.bytes
  told_put (Some refusal) piece v b a e p = inr (record {
    front = [];
    step = put_step piece v;
    later = [];
    part = p.part;
    rest = p.rest;
    steps = refl;
    piece = p.is;
    taken = p.taken;
    view = refl;
    cause = put_cause piece p.part p.rest v b a refusal e p.cause;
  })

  outcome_put : (piece : List ℕ) (v : View Reg) (b a : Output) (answer : Result (Unit {0}) Error) → a.turns ≡ b.turns
      → PieceTaken piece b a answer → Outcome (writes piece v) b a v answer
  outcome_put piece v b a (Ok u) e h = (
    record {
      taken = h.taken ∙ ap (λ t. b.sunk.taken ++ t) (sym (append-nil piece));
      failures = h.failures;
      turns = turns_same b a e;
      bytes = passes_at b.bytes a.bytes (length piece) (length (piece ++ [])) (sym (ap length (append-nil piece))) h.bytes;
      view = refl;
    },
    refl,
  )
  outcome_put piece v b a (Err x) e h = told_put (told x) piece v b a e h

  -- one piece is put out
  pub renders_put : (piece : List ℕ) (v : View Reg) (b a : Output) (answer : Result (Unit {0}) Error) → PieceOut piece b a answer
      → RendersWithin (writes piece v) v b a v answer
  renders_put piece v b a answer h = record { outcome = outcome_put piece v b a answer h.turns h.taken; frames = refl; pours = h.pours }
