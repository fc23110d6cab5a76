-- Entries with the same names and trees.
use Rattle.std.proofs.Common.{◌≡◌, ℕ, List, [], ◌∷◌, Less, string_bytes, string_cmp, nat_cmp, refl, sym, ap, ap₂, ◌∙◌, subst, map}
use Rattle.std.specs.Cmp.Lexicographic.{slice_cmp}
use Rattle.std.specs.List.{AllByRecursion}
use Rattle.std.specs.List.Sorted.{IsStrictlySortedBy}
use Rattle.std.specs.Map.{keys_of}
use Rattle.liquid_value.proofs.Entries.{Entry}
use Rattle.liquid_value.specs.meaning.Tree.{Tree, Members, no_members, member}
use Rattle.liquid_value.specs.meaning.View.{view, members_view, entry_view}

-- the members of names and trees
viewed_members : List (List ℕ × Tree) → Members
viewed_members [] = no_members
viewed_members (e ∷ es) = member e.0 e.1 (viewed_members es)

members_viewed : (es : List Entry) → members_view es ≡ viewed_members (map entry_view es)
unfolding viewed_members
members_viewed [] = refl
members_viewed (e ∷ es) = ap (member (string_bytes e.0) (view e.1)) (members_viewed es)

-- they have the same members
pub copied_members : (xs ys : List Entry) → map entry_view xs ≡ map entry_view ys → members_view xs ≡ members_view ys
copied_members xs ys same = members_viewed xs ∙ ap viewed_members same ∙ sym (members_viewed ys)

-- the names ascend
Ascend : List (List ℕ × Tree) → Type 0
Ascend [] = Unit {0}
Ascend (e ∷ es) = AllByRecursion (λ (other : List ℕ × Tree). slice_cmp nat_cmp e.0 other.0 ≡ Less) es × Ascend es

below : (k : List ℕ) (es : List Entry) → AllByRecursion (λ q. slice_cmp nat_cmp k (string_bytes q) ≡ Less) (keys_of es) ≡ AllByRecursion
    (λ (e : List ℕ × Tree). slice_cmp nat_cmp k e.0 ≡ Less) (map entry_view es)
below k [] = refl
below k (e ∷ es) = ap (λ (rest : Type 0). (slice_cmp nat_cmp k (string_bytes e.0) ≡ Less) × rest) (below k es)

ascending : (es : List Entry) → IsStrictlySortedBy string_cmp (keys_of es) ≡ Ascend (map entry_view es)
unfolding IsStrictlySortedBy Ascend
ascending [] = refl
ascending (e ∷ es) = ap₂ (λ (first rest : Type 0). first × rest) (below (string_bytes e.0) es) (ascending es)

-- they have their names in the same order
pub copied_order : (xs ys : List Entry) → map entry_view xs ≡ map entry_view ys → IsStrictlySortedBy string_cmp (keys_of ys)
    → IsStrictlySortedBy string_cmp (keys_of xs)
copied_order xs ys same h = subst (λ (A : Type 0). A) (sym (ascending xs))
    (subst Ascend (sym same) (subst (λ (A : Type 0). A) (ascending ys) h))
