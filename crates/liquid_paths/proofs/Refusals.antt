-- The refusal of an index that a value does not have.
use Rattle.std.proofs.Common.{◌≡◌, ℕ, List, codes, length, Option, None, Some, IfSome, sym, ap, ◌∙◌}
use Rattle.std.specs.Prelude.{option_map}
use Rattle.liquid_error.specs.declared.error.Error.{Error}
use Rattle.liquid_error.specs.meaning.Refusal.{Refusal, plain, with_context}
use Rattle.liquid_error.specs.meaning.Told.{told, Becomes}
use Rattle.liquid_scalar.specs.meaning.Scalar.{Scal, render_scalar}
use Rattle.liquid_value.specs.meaning.Members.{item_count}
use Rattle.liquid_value.specs.meaning.Tree.{Tree}
use Rattle.liquid_value.specs.meaning.View.{items_view}
use Rattle.liquid_value.specs.declared.value.Value.{Value}
use Rattle.liquid_paths.proofs.Values.{count_of_values}
use Rattle.liquid_paths.specs.meaning.Walk.{Path, with_front, unknown_index, indexes, listed, count_indexes}

pub indexes_by_count : (xs : List Value) → count_indexes (length xs) ≡ count_indexes (item_count (items_view xs))
indexes_by_count xs = ap count_indexes (sym (count_of_values xs))

known_after : (change : Refusal → Refusal) (meant : Refusal) (old new : Option Refusal) → IfSome old (λ r. r ≡ meant)
    → IfSome new (λ r. option_map change old ≡ Some r) → IfSome new (λ r. r ≡ change meant)
known_after change meant old None p q = tt
known_after change meant None (Some r) p q = cc
known_after change meant (Some o) (Some r) p q = let e : change o ≡ r = cc in sym e ∙ ap change p

-- an error whose refusal is given, changed
pub becomes_known : (change : Refusal → Refusal) (meant : Refusal) (old new : Error) → IfSome (told old) (λ r. r ≡ meant)
    → Becomes change old new → IfSome (told new) (λ r. r ≡ change meant)
becomes_known change meant old new p q = known_after change meant (told old) (told new) p q

pub unknown_told : (plain_error fronted asked whole : Error) (front : Path) (t : Tree) (index : Scal) (requested available : List ℕ)
    → IfSome (told plain_error) (λ r. r ≡ plain (codes "Unknown index")) → Becomes (with_front front) plain_error fronted
    → Becomes (with_context (codes "requested index") requested) fronted asked
    → Becomes (with_context (codes "available indexes") available) asked whole
    → requested ≡ render_scalar index → available ≡ listed (indexes t) → IfSome (told whole) (λ r. r ≡ unknown_index front t index)
unknown_told a b c d front t index requested available p q r s e f =
    let fronted = becomes_known (with_front front) (plain (codes "Unknown index")) a b p q in
    let asked = becomes_known (with_context (codes "requested index") requested) _ b c fronted r in
    let whole = becomes_known (with_context (codes "available indexes") available) _ c d asked s in
    rw (← e, ← f) whole
