-- How far one piece is written, and the result of writing it.
use Rattle.std.proofs.Common.{
  ◌≡◌,
  ℕ,
  ◌+◌,
  ◌-◌,
  ◌<◌,
  List,
  [],
  ◌∷◌,
  ◌++◌,
  length,
  take,
  drop,
  Option,
  None,
  Some,
  Result,
  Ok,
  Err,
  refl,
  sym,
  ap,
  subst,
  ◌∙◌,
  ◌⊎◌,
  inl,
  inr,
  arith,
  append_assoc,
}
use Rattle.std.specs.Prelude.{MatchOption, IfSome, IsOk, IsUtf8}
use Rattle.std.specs.Io.KnownBytes.{Appends}
use Rattle.std.proofs.lemmas.List.{append-nil, length-drop, take_all, take-append-drop}
use Rattle.liquid_error.specs.declared.error.Error.{Error, fold-Error}
use Rattle.liquid_error.specs.declared.error.Error.TheVariants as variants
use Rattle.liquid_error.specs.declared.error.Error.TheOpen as layer
use Rattle.liquid_error.specs.declared.error.Error.TheFolds.{fold-roll-Error}
use Rattle.liquid_error.specs.meaning.Refusal.{Refusal}
use Rattle.liquid_error.specs.meaning.Told.{told, told_step}
use Rattle.liquid_template.specs.meaning.Grows.{Grows}
use Rattle.liquid_template.specs.meaning.Sunk.{Sunk}
use Rattle.liquid_template.specs.meaning.Outcome.{failed_to_render}
use Rattle.liquid_template.specs.steps.PiecePut.{Partly, PiecePut}
use Rattle.liquid_template.proofs.Growth.{Grows-start, Grows-both}

-- the sink took a part of the piece, and the rest is left
pub record SoFar (piece rest : List ℕ) (before now : Sunk) : Type 0 where
  pub part : List ℕ
  pub is : piece ≡ part ++ rest
  pub taken : now.taken ≡ before.taken ++ part
  pub failures : now.failures ≡ before.failures
  pub grows : Grows before now
  pub lent : now.lent ≡ before.lent

-- what a put leaves of a sink
pub record PutTook (taken : List ℕ) (count : ℕ) (before after : Sunk) : Type 0 where
  pub bytes : after.taken ≡ before.taken ++ taken
  pub failures : after.failures ≡ before.failures + count
  pub destination : Appends before.destination after.destination taken
  pub lent : after.lent ≡ before.lent

pub so_far_begins : (piece : List ℕ) (b : Sunk) → SoFar piece piece b b
so_far_begins piece b =
    record { part = []; is = refl; taken = sym (append-nil b.taken); failures = refl; grows = Grows-start b; lent = refl }

put_grows : (taken : List ℕ) (count : ℕ) (b m a : Sunk) → Grows b m → PutTook taken count m a → Grows b a
put_grows taken count b m a g p = Grows-both b m a g (record { more = taken; taken_is = p.bytes; destination_is = p.destination })

-- a put that took some of the rest leaves what is after it
pub so_far_put : (piece rest : List ℕ) (b m a : Sunk) (count : ℕ) → SoFar piece rest b m → PutTook (take count rest) 0 m a
    → SoFar piece (take (length rest - count) (drop count rest)) b a
so_far_put piece rest b m a count s p = record {
  part = s.part ++ take count rest;
  is =
      s.is ∙ rw (
        take_all (length rest - count) (drop count rest) (omega (arith, length-drop count rest)),
        append_assoc,
        take-append-drop count rest,
      );
  taken = p.bytes ∙ rw (s.taken, append_assoc);
  failures = omega (arith, p.failures, s.failures);
  grows = put_grows (take count rest) 0 b m a s.grows p;
  lent = p.lent ∙ s.lent;
}

-- all of the piece was taken
nothing_left : (xs : List ℕ) → length xs ≡ 0 → xs ≡ []
nothing_left [] e = refl
nothing_left (x ∷ xs) e = cc

pub piece_done : (piece rest : List ℕ) (b a : Sunk) (u : Unit {0}) → length rest ≡ 0 → IsUtf8 piece → SoFar piece rest b a
    → PiecePut piece b a (Ok u)
piece_done piece rest b a u e t s =
    let all : a.taken ≡ b.taken ++ piece =
    s.taken ∙ ap (λ x. b.taken ++ x) (sym (s.is ∙ ap (λ x. s.part ++ x) (nothing_left rest e) ∙ append-nil s.part)) in
    record {
      taken = (all, s.failures);
      pours = record { grows = s.grows; lent = s.lent; text = record { more = piece; taken_is = all; text = t } };
    }

partly : (piece rest : List ℕ) (b m a : Sunk) (count : ℕ) → SoFar piece rest b m → 0 < length rest → PutTook [] count m a → Partly piece b a
partly piece rest b m a count s h p =
    record { part = s.part; rest = rest; is = s.is; some_left = h; taken = p.bytes ∙ append-nil m.taken ∙ s.taken }

failed_cases : (t : Option Refusal) (m n : ℕ) → m ≡ n + 1 → IfSome t (λ r. r ≡ failed_to_render [])
    → MatchOption t ((m ≡ n) ⊎ (m ≡ n + 1)) (λ refusal. (m ≡ n + 1) × (refusal ≡ failed_to_render []))
failed_cases None m n e h = inr e
failed_cases (Some r) m n e h = (e, h)

-- the sink failed at a put
pub piece_failed : (piece rest : List ℕ) (b m a : Sunk) (e : Error) → SoFar piece rest b m → 0 < length rest → PutTook [] 1 m a
    → IfSome (told e) (λ r. r ≡ failed_to_render []) → PiecePut piece b a (Err e)
piece_failed piece rest b m a e s h p is = record {
  taken = (partly piece rest b m a 1 s h p, failed_cases (told e) a.failures b.failures (omega (arith, p.failures, s.failures)) is);
  pours = record { grows = put_grows [] 1 b m a s.grows p; lent = p.lent ∙ s.lent; text = tt };
}

-- an out-of-memory error says nothing
pub told_memory : told variants.Memory ≡ None
told_memory =
    ap (fold-Error (Option Refusal) told_step) (sym variants.rolls-Memory) ∙ fold-roll-Error (Option Refusal) told_step layer.Memory

lost_cases : (t : Option Refusal) (m n : ℕ) → t ≡ None → m ≡ n
    → MatchOption t ((m ≡ n) ⊎ (m ≡ n + 1)) (λ refusal. (m ≡ n + 1) × (refusal ≡ failed_to_render []))
lost_cases None m n i e = inl e
lost_cases (Some r) m n i e = cc

-- the sink had no memory for a put
pub piece_lost : (piece rest : List ℕ) (b m a : Sunk) (e : Error) → SoFar piece rest b m → 0 < length rest → PutTook [] 0 m a
    → told e ≡ None → PiecePut piece b a (Err e)
piece_lost piece rest b m a e s h p is = record {
  taken = (partly piece rest b m a 0 s h p, lost_cases (told e) a.failures b.failures is (omega (arith, p.failures, s.failures)));
  pours = record { grows = put_grows [] 0 b m a s.grows p; lent = p.lent ∙ s.lent; text = tt };
}

-- an answer without an error is the one of a call that is done
pub answer_ok : (answer : Result (Unit {0}) Error) → IsOk answer → answer ≡ Ok tt
answer_ok (Ok u) h = refl
answer_ok (Err e) h = absurd (cc)

pub piece_written : (piece rest : List ℕ) (b a : Sunk) (answer : Result (Unit {0}) Error) → IsOk answer → length rest ≡ 0 → IsUtf8 piece
    → SoFar piece rest b a → PiecePut piece b a answer
piece_written piece rest b a answer h e t s =
    subst (λ x. PiecePut piece b a x) (sym (answer_ok answer h)) (piece_done piece rest b a tt e t s)
