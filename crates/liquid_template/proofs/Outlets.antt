-- The result of putting a piece to an open text, and through a gate to a sink.
use Rattle.std.proofs.Common.{
  ◌≡◌,
  ℕ,
  ◌+◌,
  ◌<◌,
  true,
  false,
  Bool,
  List,
  [],
  ◌++◌,
  length,
  Option,
  Some,
  None,
  Result,
  Ok,
  Err,
  ◌⊎◌,
  inl,
  inr,
  refl,
  sym,
  ap,
  subst,
  ◌∙◌,
  arith,
}
use Rattle.std.specs.Prelude.{MatchOption, IfSome, IsOk, IsUtf8}
use Rattle.std.proofs.lemmas.List.{append-nil}
use Rattle.liquid_error.specs.declared.error.Error.{Error}
use Rattle.liquid_error.specs.meaning.Refusal.{Refusal}
use Rattle.liquid_error.specs.meaning.Told.{told}
use Rattle.liquid_template.specs.meaning.Sunk.{Sunk}
use Rattle.liquid_template.specs.meaning.Output.{Output, Passed, Gated, IsPast, asked, Passes, Refuses, gated}
use Rattle.liquid_template.specs.meaning.Pours.{Pours}
use Rattle.liquid_template.specs.meaning.Outcome.{failed_to_render, was_stopped}
use Rattle.liquid_template.specs.steps.PieceOut.{PieceLost, PieceFails, PieceRefused, PieceTaken, PieceOut}
use Rattle.liquid_template.specs.steps.PiecePut.{Partly, PiecePutTaken, PiecePut}
use Rattle.liquid_template.specs.steps.Place.{target_of}
use Rattle.liquid_template.proofs.Passing.{passes_none}
use Rattle.liquid_template.proofs.Pieces.{answer_ok}
use Rattle.liquid_template.proofs.Pouring.{pours_nothing, pours_refused}

abbrev Answer : Type 0
Answer = Result (Unit {0}) Error

and_none : (n : ℕ) → n + 0 ≡ n
and_none n = omega arith

-- a piece put to an open text
text_taken : (o : Output) (text piece new : List ℕ) (u : Unit {0}) → IsUtf8 piece → new ≡ text ++ piece
    → PieceOut piece (target_of o (Some text)) (target_of o (Some new)) (Ok u)
text_taken o text piece new u t e = record {
  taken = record { taken = e; failures = refl; bytes = refl };
  turns = refl;
  pours =
      record {
        grows = record { more = piece; taken_is = e; destination_is = tt };
        lent = refl;
        text = record { more = piece; taken_is = e; text = t };
      };
}

pub text_put : (o : Output) (open_text : Option (List ℕ)) (text piece new : List ℕ) (u : Unit {0}) → IsUtf8 piece → open_text ≡ Some text
    → new ≡ text ++ piece → PieceOut piece (target_of o open_text) (target_of o (Some new)) (Ok u)
text_put o open_text text piece new u t i e =
    subst (λ x. PieceOut piece (target_of o x) (target_of o (Some new)) (Ok u)) (sym i) (text_taken o text piece new u t e)

lost_cause : (piece : List ℕ) (b a : Output) (t : Option Refusal) → t ≡ None → PieceLost piece [] b a
    → MatchOption t (PieceLost piece [] b a) (λ refusal. PieceFails piece piece b a refusal ⊎ PieceRefused piece [] b a refusal)
lost_cause piece b a None e h = h
lost_cause piece b a (Some r) e h = cc

text_left : (o : Output) (text piece new : List ℕ) (e : Error) → told e ≡ None → new ≡ text
    → PieceOut piece (target_of o (Some text)) (target_of o (Some new)) (Err e)
text_left o text piece new e t i = record {
  taken = record {
    part = [];
    rest = piece;
    is = refl;
    taken = i ∙ sym (append-nil text);
    cause =
        lost_cause piece (target_of o (Some text)) (target_of o (Some new)) (told e) t (record { failures = inl refl; bytes = inl refl });
  };
  turns = refl;
  pours = record { grows = record { more = []; taken_is = i ∙ sym (append-nil text); destination_is = tt }; lent = refl; text = tt };
}

pub text_lost : (o : Output) (open_text : Option (List ℕ)) (text piece new : List ℕ) (e : Error) → told e ≡ None → open_text ≡ Some text
    → new ≡ text → PieceOut piece (target_of o open_text) (target_of o (Some new)) (Err e)
text_lost o open_text text piece new e t i h =
    subst (λ x. PieceOut piece (target_of o x) (target_of o (Some new)) (Err e)) (sym i) (text_left o text piece new e t h)

-- a piece that the gate let pass, put to the sink
put_cause : (piece : List ℕ) (b : Sunk) (a : Sunk) (p : Partly piece b a) (x y : Output) (t : Option Refusal) → x.sunk ≡ b → y.sunk ≡ a
    → Passes x.bytes (length piece) y.bytes
    → MatchOption t ((a.failures ≡ b.failures) ⊎ (a.failures ≡ b.failures + 1))
    (λ refusal. (a.failures ≡ b.failures + 1) × (refusal ≡ failed_to_render []))
    → MatchOption t (PieceLost piece p.part x y) (λ refusal. PieceFails piece p.rest x y refusal ⊎ PieceRefused piece p.part x y refusal)
put_cause piece b a p x y None i j q h = record {
  failures = failures_of h;
  bytes = inl q;
}
  where
    failures_of : (a.failures ≡ b.failures) ⊎ (a.failures ≡ b.failures + 1) → (y.sunk.failures ≡ x.sunk.failures)
        ⊎ (y.sunk.failures ≡ x.sunk.failures + 1)
    failures_of (inl e) = inl (ap (λ z. z.failures) j ∙ e ∙ sym (ap (λ z. z.failures) i))
    failures_of (inr e) = inr (ap (λ z. z.failures) j ∙ e ∙ sym (ap (λ z. z.failures + 1) i))
put_cause piece b a p x y (Some r) i j q h =
    inl (record {
      some_left = p.some_left;
      failures = ap (λ z. z.failures) j ∙ h.0 ∙ sym (ap (λ z. z.failures + 1) i);
      bytes = q;
      reason = h.1;
    })

put_taken : (piece : List ℕ) (x y : Output) (answer : Answer) → Passes x.bytes (length piece) y.bytes
    → PiecePutTaken piece x.sunk y.sunk answer → PieceTaken piece x y answer
put_taken piece x y (Ok u) q h = record { taken = h.0; failures = h.1; bytes = q }
put_taken piece x y (Err e) q h =
    record {
      part = h.0.part;
      rest = h.0.rest;
      is = h.0.is;
      taken = h.0.taken;
      cause = put_cause piece x.sunk y.sunk h.0 x y (told e) refl refl q h.1;
    }

through : (piece : List ℕ) (x y : Output) (answer : Answer) → Passes x.bytes (length piece) y.bytes → y.turns ≡ x.turns
    → PiecePut piece x.sunk y.sunk answer → PieceOut piece x y answer
through piece x y answer q t h = record { taken = put_taken piece x y answer q h.taken; turns = t; pours = h.pours }

pub gated_put : (piece : List ℕ) (s r : Sunk) (g h : Gated) (answer : Answer) (passed : Bool) → passed ≡ true
    → h.bytes ≡ asked passed (length piece) g.bytes → h.turns ≡ g.turns → PiecePut piece s r answer
    → PieceOut piece (gated s g) (gated r h) answer
gated_put piece s r g h answer passed p e t put =
    through piece (gated s g) (gated r h) answer (ap Some (e ∙ ap (λ x. asked x (length piece) g.bytes) p)) (ap Some t) put

refused_cause : (piece : List ℕ) (x y : Output) (t : Option Refusal) → 0 < length piece → y.sunk ≡ x.sunk
    → Refuses x.bytes 0 (length piece) y.bytes → IfSome t (λ r. r ≡ was_stopped [])
    → MatchOption t (PieceLost piece [] x y) (λ refusal. PieceFails piece piece x y refusal ⊎ PieceRefused piece [] x y refusal)
refused_cause piece x y None l i q h = record { failures = inl (ap (λ z. z.failures) i); bytes = inr (refl, q) }
refused_cause piece x y (Some r) l i q h =
    inr (record { nothing = refl; some_asked = l; failures = ap (λ z. z.failures) i; bytes = q; reason = h })

refused_at : (piece : List ℕ) (x y : Output) (e : Error) → 0 < length piece → y.sunk ≡ x.sunk → y.turns ≡ x.turns
    → Refuses x.bytes 0 (length piece) y.bytes → IfSome (told e) (λ r. r ≡ was_stopped []) → PieceOut piece x y (Err e)
refused_at piece x y e l i t q h = record {
  taken = record {
    part = [];
    rest = piece;
    is = refl;
    taken = ap (λ z. z.taken) i ∙ sym (append-nil x.sunk.taken);
    cause = refused_cause piece x y (told e) l i q h;
  };
  turns = t;
  pours = subst (λ z. Pours x.sunk z (Err e)) (sym i) (pours_refused x.sunk e);
}

none_first : (p : Passed) → asked false 0 p ≡ asked false 0 (asked true 0 p)
none_first p = ap (λ n. record p { count = n; refusals = p.refusals + 1 }) (sym (and_none p.count))

past_first : (p : Passed) (n : ℕ) → IsPast p n → IsPast (asked true 0 p) n
past_first p n h = subst (λ c. IsPast (record p { count = c }) n) (sym (and_none p.count)) h

refused_any : (n : ℕ) (p : Passed) → asked false n p ≡ asked false 0 p
refused_any n p = refl

pub gated_refused : (piece : List ℕ) (s : Sunk) (g h : Gated) (e : Error) (passed : Bool) → passed ≡ false → 0 < length piece
    → h.bytes ≡ asked passed (length piece) g.bytes → (passed ≡ false → IsPast g.bytes (length piece)) → h.turns ≡ g.turns
    → IfSome (told e) (λ r. r ≡ was_stopped [])
    → PieceOut piece (gated s g) (gated s h) (Err e)
gated_refused piece s g h e passed p l b past t i = refused_at piece (gated s g) (gated s h) e l refl (ap Some t) (
  ap Some (b ∙ ap (λ x. asked x (length piece) g.bytes) p ∙ refused_any (length piece) g.bytes ∙ none_first g.bytes),
  past_first g.bytes (length piece) (past p),
) i

-- nothing is put if the piece is empty
pub nothing_put : (piece : List ℕ) (o : Output) (u : Unit {0}) → piece ≡ [] → PieceOut piece o o (Ok u)
nothing_put piece o u e = subst (λ x. PieceOut x o o (Ok u)) (sym e) (record {
  taken = record { taken = sym (append-nil o.sunk.taken); failures = refl; bytes = passes_none o.bytes };
  turns = refl;
  pours = pours_nothing o.sunk u;
})

-- the same where the answer has no error
pub text_written : (o : Output) (open_text : Option (List ℕ)) (text piece new : List ℕ) (answer : Result (Unit {0}) Error) → IsOk answer
    → IsUtf8 piece → open_text ≡ Some text → new ≡ text ++ piece → PieceOut piece (target_of o open_text) (target_of o (Some new)) answer
text_written o open_text text piece new answer h t i e =
    subst (λ x. PieceOut piece (target_of o open_text) (target_of o (Some new)) x) (sym (answer_ok answer h))
    (text_put o open_text text piece new tt t i e)
