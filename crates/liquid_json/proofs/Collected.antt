-- The entries of a map that is built from entries in order.
use Rattle.std.proofs.Common.{
  ◌≡◌,
  ℕ,
  List,
  [],
  ◌∷◌,
  String,
  Global,
  BTreeMap,
  Option,
  Some,
  None,
  Bool,
  true,
  false,
  Ordering,
  Less,
  Equal,
  Greater,
  map,
  string_bytes,
  string_cmp,
  refl,
  sym,
  ap,
  ◌∙◌,
}
use Rattle.std.proofs.lemmas.Cmp.{eq_by_cmp_equiv}
use Rattle.std.proofs.lemmas.Map.{lookup-none}
use Rattle.std.proofs.lemmas.Map.Entries.{lookup_head, lookup_tail, none_past_head, none_below_head}
use Rattle.std.proofs.lemmas.Map.Keys.{IsDistinct-from_sorted, sorted_tail}
use Rattle.std.proofs.lemmas.Map.Lookups.{exact_bytes}
use Rattle.std.proofs.lemmas.Map.Made.{update_all_none}
use Rattle.std.proofs.lemmas.Option.{none-some}
use Rattle.std.specs.BTreeMap.{IsFromIterResult, is_at}
use Rattle.std.specs.List.Sorted.{IsStrictlySortedBy}
use Rattle.std.specs.Map.{keys_of, lookup}
use Rattle.std.specs.Ordering.{eq_by_cmp, is_eq, ordering_reverse}
use Rattle.std.specs.Prelude.{unwrap_or}
use Rattle.std.specs.String.{string_cmp_total}

abbrev pub named : {V : Type 0} → String Global × V → List ℕ × V
named e = (string_bytes e.0, e.1)

abbrev Entry : Type 0 → Type 0
Entry V = String Global × V

abbrev found : {V : Type 0} → List (Entry V) → String Global → Option V
found es name = lookup (is_at (string_cmp name)) es

abbrev Ascend : {V : Type 0} → List (Entry V) → Type 0
Ascend es = IsStrictlySortedBy string_cmp (keys_of es)

abbrev SameFound : {V : Type 0} → List (Entry V) → List (Entry V) → Type 0
SameFound xs ys = (name : String Global) → found xs name ≡ found ys name

itself : {V : Type 0} (x : Entry V) → is_at (string_cmp x.0) x.0 ≡ true
itself x = (eq_by_cmp_equiv string_cmp_total).refl x.0

found_first : {V : Type 0} (x : Entry V) (xs : List (Entry V)) → found (x ∷ xs) x.0 ≡ Some x.1
found_first x xs = lookup_head (is_at (string_cmp x.0)) x xs (itself x)

none_later : {V : Type 0} (name : String Global) (x : Entry V) (xs : List (Entry V)) → Ascend (x ∷ xs) → is_at (string_cmp name) x.0 ≡ true
    → found xs name ≡ None
none_later name x xs h at =
    lookup-none _ xs (none_past_head (eq_by_cmp_equiv string_cmp_total) name x xs (IsDistinct-from_sorted string_cmp _ h) at)

none_earlier : {V : Type 0} (name : String Global) (x : Entry V) (xs : List (Entry V)) → Ascend (x ∷ xs) → string_cmp name x.0 ≡ Less
    → found (x ∷ xs) name ≡ None
none_earlier name x xs h before = lookup-none _ (x ∷ xs) (none_below_head string_cmp_total name x xs h before)

-- if each name has the same value in both, the first names are the same
first_name : {V : Type 0} (o : Ordering) (x y : Entry V) (xs ys : List (Entry V)) → string_cmp x.0 y.0 ≡ o → Ascend (x ∷ xs)
    → Ascend (y ∷ ys) → SameFound (x ∷ xs) (y ∷ ys) → string_cmp x.0 y.0 ≡ Equal
first_name Less x y xs ys is h k same = absurd (none-some x.1 (sym (none_earlier x.0 y ys k is) ∙ sym (same x.0) ∙ found_first x xs))
first_name Equal x y xs ys is h k same = is
first_name Greater x y xs ys is h k same =
    absurd (none-some y.1 (sym (none_earlier y.0 x xs h (string_cmp_total.antisymm y.0 x.0 ∙ ap ordering_reverse is)) ∙ same y.0
    ∙ found_first y ys))

-- .. and so are the values of the others
rest_found : {V : Type 0} (x y : Entry V) (xs ys : List (Entry V)) → string_cmp x.0 y.0 ≡ Equal → Ascend (x ∷ xs) → Ascend (y ∷ ys)
    → SameFound (x ∷ xs) (y ∷ ys) → (name : String Global) (b : Bool) → is_at (string_cmp name) x.0 ≡ b → found xs name ≡ found ys name
rest_found x y xs ys tie h k same name b at =
    let laws = eq_by_cmp_equiv string_cmp_total in
    let alike : is_at (string_cmp name) y.0 ≡ is_at (string_cmp name) x.0 =
    laws.symm name y.0 ∙ sym (laws.congr x.0 y.0 name (ap is_eq tie)) ∙ laws.symm x.0 name in
    by b at alike
  where
    by : (b : Bool) → is_at (string_cmp name) x.0 ≡ b → is_at (string_cmp name) y.0 ≡ is_at (string_cmp name) x.0
        → found xs name ≡ found ys name
    by true at alike = none_later name x xs h at ∙ sym (none_later name y ys k (alike ∙ at))
    by false at alike =
        sym (lookup_tail (is_at (string_cmp name)) x xs at) ∙ same name ∙ lookup_tail (is_at (string_cmp name)) y ys (alike ∙ at)

-- entries whose names ascend and have the same values are the same by name
same_named : {V : Type 0} (xs ys : List (Entry V)) → Ascend xs → Ascend ys → SameFound xs ys → map named xs ≡ map named ys
same_named [] [] h k same = refl
same_named [] (y ∷ ys) h k same = absurd (none-some y.1 (same y.0 ∙ found_first y ys))
same_named (x ∷ xs) [] h k same = absurd (none-some x.1 (sym (same x.0) ∙ found_first x xs))
same_named (x ∷ xs) (y ∷ ys) h k same =
    let tie : string_cmp x.0 y.0 ≡ Equal = first_name _ x y xs ys refl h k same in
    let first : x.1 ≡ y.1 =
    ap (λ found. unwrap_or found x.1) (sym (found_first x xs) ∙ same x.0 ∙ lookup_head (is_at (string_cmp x.0)) y ys (ap is_eq tie)) in
    let rest : map named xs ≡ map named ys =
    same_named xs ys (sorted_tail string_cmp x.0 (keys_of xs) h) (sorted_tail string_cmp y.0 (keys_of ys) k)
    (λ name. rest_found x y xs ys tie h k same name _ refl) in
    let name : string_bytes x.0 ≡ string_bytes y.0 = exact_bytes (string_bytes x.0) (string_bytes y.0) tie in
    ap (λ (bytes : List ℕ). (bytes, x.1) ∷ map named xs) name ∙ ap (λ v. (string_bytes y.0, v) ∷ map named xs) first
    ∙ ap (λ more. (string_bytes y.0, y.1) ∷ more) rest

-- a map that is built from entries whose names ascend has them
pub collected : {V : Type 0} (xs : List (Entry V)) (m : BTreeMap (String Global) V) → IsStrictlySortedBy string_cmp (keys_of xs)
    → IsFromIterResult string_cmp xs m → map named m.entries ≡ map named xs
collected xs m ascends made =
    same_named m.entries xs made.1 ascends
    (λ name. made.0 name ∙ update_all_none (eq_by_cmp_equiv string_cmp_total) (eq_by_cmp string_cmp) (λ x y. refl) xs name
    (IsDistinct-from_sorted string_cmp (keys_of xs) ascends))
