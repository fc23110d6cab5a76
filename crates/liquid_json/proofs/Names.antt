-- Entries with the same names have them in the same order.
use Rattle.std.proofs.Common.{
  ◌≡◌,
  ℕ,
  List,
  [],
  ◌∷◌,
  String,
  Global,
  Less,
  map,
  string_bytes,
  string_cmp,
  nat_cmp,
  refl,
  sym,
  ap,
  ap₂,
  subst,
}
use Rattle.std.specs.Cmp.Lexicographic.{slice_cmp}
use Rattle.std.specs.List.{AllByRecursion}
use Rattle.std.specs.List.Sorted.{IsStrictlySortedBy}
use Rattle.std.specs.Map.{keys_of}

abbrev pub name_of : {V : Type 0} → String Global × V → List ℕ
name_of e = string_bytes e.0

Ascend : List (List ℕ) → Type 0
Ascend [] = Unit {0}
Ascend (n ∷ ns) = AllByRecursion (λ (other : List ℕ). slice_cmp nat_cmp n other ≡ Less) ns × Ascend ns

below : {V : Type 0} (k : List ℕ) (es : List (String Global × V))
    → AllByRecursion (λ q. slice_cmp nat_cmp k (string_bytes q) ≡ Less) (keys_of es) ≡ AllByRecursion
    (λ (n : List ℕ). slice_cmp nat_cmp k n ≡ Less) (map name_of es)
below k [] = refl
below k (e ∷ es) = ap (λ (rest : Type 0). (slice_cmp nat_cmp k (string_bytes e.0) ≡ Less) × rest) (below k es)

ascending : {V : Type 0} (es : List (String Global × V)) → IsStrictlySortedBy string_cmp (keys_of es) ≡ Ascend (map name_of es)
unfolding IsStrictlySortedBy Ascend
ascending [] = refl
ascending (e ∷ es) = ap₂ (λ (first rest : Type 0). first × rest) (below (string_bytes e.0) es) (ascending es)

pub same_order : {V W : Type 0} (xs : List (String Global × V)) (ys : List (String Global × W)) → map name_of xs ≡ map name_of ys
    → IsStrictlySortedBy string_cmp (keys_of ys) → IsStrictlySortedBy string_cmp (keys_of xs)
same_order xs ys same h =
    subst (λ (A : Type 0). A) (sym (ascending xs)) (subst Ascend (sym same) (subst (λ (A : Type 0). A) (ascending ys) h))
