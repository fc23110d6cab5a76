-- What is in the destination of a sink over several puts.
use Rattle.std.proofs.Common.{ℕ, List, [], ◌++◌, Option, None, Some, sym, ◌∙◌, append_assoc}
use Rattle.std.specs.Io.KnownBytes.{Appends}
use Rattle.std.proofs.lemmas.List.{append-nil}
use Rattle.liquid_template.specs.meaning.Grows.{Grows}
use Rattle.liquid_template.specs.meaning.Sunk.{Sunk}

appends_nothing : (destination : Option (List ℕ)) → Appends destination destination []
appends_nothing None = tt
appends_nothing (Some bytes) = sym (append-nil bytes)

appends_both : (a b c : Option (List ℕ)) (xs ys : List ℕ) → Appends a b xs → Appends b c ys → Appends a c (xs ++ ys)
appends_both None b c xs ys p q = tt
appends_both (Some ws) (Some zs) (Some qs) xs ys p q = q ∙ rw (p, append_assoc)
appends_both (Some ws) (Some zs) None xs ys p q = absurd q
appends_both (Some ws) None c xs ys p q = absurd p

-- before the first put nothing has grown
pub Grows-start : (b : Sunk) → Grows b b
Grows-start b = record { more = []; taken_is = sym (append-nil b.taken); destination_is = appends_nothing b.destination }

-- one growth after another
pub Grows-both : (b m a : Sunk) → Grows b m → Grows m a → Grows b a
Grows-both b m a p q = record {
  more = p.more ++ q.more;
  taken_is = q.taken_is ∙ rw (p.taken_is, append_assoc);
  destination_is = appends_both b.destination m.destination a.destination p.more q.more p.destination_is q.destination_is;
}
