-- What writing leaves of a sink: for no action, for one after another, and for a refusal that gets a trace.
use Rattle.std.proofs.Common.{ℕ, List, [], ◌++◌, Result, Ok, Err, refl, sym, ◌∙◌, append_assoc}
use Rattle.std.specs.Prelude.{OnOk}
use Rattle.std.proofs.lemmas.List.{append-nil}
use Rattle.std.proofs.lemmas.Str.{IsUtf8-append, IsUtf8-nil}
use Rattle.liquid_error.specs.declared.error.Error.{Error}
use Rattle.liquid_error.specs.meaning.Refusal.{Refusal}
use Rattle.liquid_error.specs.meaning.Helpers.{ErrBecomes}
use Rattle.liquid_template.specs.meaning.Sunk.{Sunk}
use Rattle.liquid_template.specs.meaning.Pours.{TookText, Pours}
use Rattle.liquid_template.proofs.Growth.{Grows-start, Grows-both}

abbrev Answer : Type 0
Answer = Result (Unit {0}) Error

took_nothing : (taken : List ℕ) → TookText taken taken
took_nothing taken = record { more = []; taken_is = sym (append-nil taken); text = IsUtf8-nil }

took_both : (a b c : List ℕ) → TookText a b → TookText b c → TookText a c
took_both a b c p q =
    record {
      more = p.more ++ q.more;
      taken_is = q.taken_is ∙ rw (p.taken_is, append_assoc);
      text = IsUtf8-append p.more q.more p.text q.text;
    }

on_ok : {A B : Type 0} (answer : Answer) → (A → B) → OnOk answer A → OnOk answer B
on_ok (Ok u) f a = f a
on_ok (Err e) f a = tt

-- nothing was written
pub pours_nothing : (b : Sunk) (u : Unit {0}) → Pours b b (Ok u)
pours_nothing b u = record { grows = Grows-start b; lent = refl; text = took_nothing b.taken }

pub pours_refused : (b : Sunk) (e : Error) → Pours b b (Err e)
pours_refused b e = record { grows = Grows-start b; lent = refl; text = tt }

-- one thing was written, and then another
pub pours_then : (b m a : Sunk) (u : Unit {0}) (answer : Answer) → Pours b m (Ok u) → Pours m a answer → Pours b a answer
pours_then b m a u answer p q = record {
  grows = Grows-both b m a p.grows q.grows;
  lent = q.lent ∙ p.lent;
  text = on_ok answer (took_both b.taken m.taken a.taken p.text) q.text;
}

-- the same answer, with its error changed
pub pours_through : (f : Refusal → Refusal) (b a : Sunk) (answer answer' : Answer) → ErrBecomes f answer answer' → Pours b a answer
    → Pours b a answer'
pours_through f b a (Ok u) (Ok u') e p = record { grows = p.grows; lent = p.lent; text = p.text }
pours_through f b a (Ok u) (Err x) e p = cc
pours_through f b a (Err x) (Ok u) e p = absurd e
pours_through f b a (Err x) (Err y) e p = record { grows = p.grows; lent = p.lent; text = tt }
