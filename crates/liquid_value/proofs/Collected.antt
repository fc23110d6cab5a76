-- The members of a map that is built from entries in order.
use Rattle.std.proofs.Common.{
  ◌≡◌,
  List,
  [],
  ◌∷◌,
  String,
  Global,
  BTreeMap,
  Option,
  Some,
  None,
  Bool,
  true,
  false,
  Ordering,
  Less,
  Equal,
  Greater,
  string_bytes,
  string_cmp,
  refl,
  sym,
  ap,
  ◌∙◌,
}
use Rattle.std.proofs.lemmas.Cmp.{eq_by_cmp_equiv}
use Rattle.std.proofs.lemmas.Map.{lookup-none}
use Rattle.std.proofs.lemmas.Map.Entries.{lookup_head, lookup_tail, none_past_head, none_below_head}
use Rattle.std.proofs.lemmas.Map.Keys.{IsDistinct-from_sorted, sorted_tail}
use Rattle.std.proofs.lemmas.Map.Lookups.{exact_bytes}
use Rattle.std.proofs.lemmas.Map.Made.{update_all_none}
use Rattle.std.proofs.lemmas.Option.{none-some}
use Rattle.std.specs.BTreeMap.{IsFromIterResult, is_at}
use Rattle.std.specs.List.Sorted.{IsStrictlySortedBy}
use Rattle.std.specs.Map.{keys_of, lookup}
use Rattle.std.specs.Ordering.{eq_by_cmp, is_eq, ordering_reverse}
use Rattle.std.specs.Prelude.{unwrap_or}
use Rattle.std.specs.String.{string_cmp_total}
use Rattle.liquid_value.proofs.Entries.{Entry}
use Rattle.liquid_value.specs.meaning.Tree.{member}
use Rattle.liquid_value.specs.meaning.View.{view, members_view}
use Rattle.liquid_value.specs.declared.value.Value.{Value}

abbrev found : List Entry → String Global → Option Value
found es name = lookup (is_at (string_cmp name)) es

abbrev Ascend : List Entry → Type 0
Ascend es = IsStrictlySortedBy string_cmp (keys_of es)

SameFound : List Entry → List Entry → Type 0
SameFound xs ys = (name : String Global) → found xs name ≡ found ys name

itself : (x : Entry) → is_at (string_cmp x.0) x.0 ≡ true
itself x = (eq_by_cmp_equiv string_cmp_total).refl x.0

found_first : (x : Entry) (xs : List Entry) → found (x ∷ xs) x.0 ≡ Some x.1
found_first x xs = lookup_head (is_at (string_cmp x.0)) x xs (itself x)

none_later : (name : String Global) (x : Entry) (xs : List Entry) → Ascend (x ∷ xs) → is_at (string_cmp name) x.0 ≡ true
    → found xs name ≡ None
none_later name x xs h at = lookup-none _ xs
    (none_past_head (eq_by_cmp_equiv string_cmp_total) name x xs (IsDistinct-from_sorted string_cmp _ h) at)

none_earlier : (name : String Global) (x : Entry) (xs : List Entry) → Ascend (x ∷ xs) → string_cmp name x.0 ≡ Less
    → found (x ∷ xs) name ≡ None
none_earlier name x xs h before = lookup-none _ (x ∷ xs) (none_below_head string_cmp_total name x xs h before)

-- if each name has the same value in both, the first names are the same
first_name : (o : Ordering) (x y : Entry) (xs ys : List Entry) → string_cmp x.0 y.0 ≡ o → Ascend (x ∷ xs) → Ascend (y ∷ ys)
    → SameFound (x ∷ xs) (y ∷ ys) → string_cmp x.0 y.0 ≡ Equal
unfolding SameFound
first_name Less x y xs ys is h k same = absurd (none-some x.1 (sym (none_earlier x.0 y ys k is) ∙ sym (same x.0) ∙ found_first x xs))
first_name Equal x y xs ys is h k same = is
first_name Greater x y xs ys is h k same =
    absurd (none-some y.1 (sym (none_earlier y.0 x xs h (string_cmp_total.antisymm y.0 x.0 ∙ ap ordering_reverse is)) ∙ same y.0
    ∙ found_first y ys))

-- .. and so are the values of the others
rest_found : (x y : Entry) (xs ys : List Entry) → string_cmp x.0 y.0 ≡ Equal → Ascend (x ∷ xs) → Ascend (y ∷ ys)
    → SameFound (x ∷ xs) (y ∷ ys) → (name : String Global) (b : Bool) → is_at (string_cmp name) x.0 ≡ b → found xs name ≡ found ys name
unfolding SameFound
rest_found x y xs ys tie h k same name b at =
    let laws = eq_by_cmp_equiv string_cmp_total in
    let alike : is_at (string_cmp name) y.0 ≡ is_at (string_cmp name) x.0 = laws.symm name y.0
    ∙ sym (laws.congr x.0 y.0 name (ap is_eq tie)) ∙ laws.symm x.0 name in
    by b at alike
  where
    by : (b : Bool) → is_at (string_cmp name) x.0 ≡ b → is_at (string_cmp name) y.0 ≡ is_at (string_cmp name) x.0
        → found xs name ≡ found ys name
    by true at alike = none_later name x xs h at ∙ sym (none_later name y ys k (alike ∙ at))
    by false at alike = sym (lookup_tail (is_at (string_cmp name)) x xs at) ∙ same name
        ∙ lookup_tail (is_at (string_cmp name)) y ys (alike ∙ at)

-- entries whose names ascend and have the same values have the same members
same_members : (xs ys : List Entry) → Ascend xs → Ascend ys → SameFound xs ys → members_view xs ≡ members_view ys
unfolding SameFound
same_members [] [] h k same = refl
same_members [] (y ∷ ys) h k same = absurd (none-some y.1 (same y.0 ∙ found_first y ys))
same_members (x ∷ xs) [] h k same = absurd (none-some x.1 (sym (same x.0) ∙ found_first x xs))
same_members (x ∷ xs) (y ∷ ys) h k same =
    let tie : string_cmp x.0 y.0 ≡ Equal = first_name _ x y xs ys refl h k same in
    let first : x.1 ≡ y.1 = ap (λ found. unwrap_or found x.1)
    (sym (found_first x xs) ∙ same x.0 ∙ lookup_head (is_at (string_cmp x.0)) y ys (ap is_eq tie)) in
    let rest : members_view xs ≡ members_view ys = same_members xs ys (sorted_tail string_cmp x.0 (keys_of xs) h)
    (sorted_tail string_cmp y.0 (keys_of ys) k) (λ name. rest_found x y xs ys tie h k same name _ refl) in
    ap (λ name. member name (view x.1) (members_view xs)) (exact_bytes (string_bytes x.0) (string_bytes y.0) tie)
    ∙ ap (λ v. member (string_bytes y.0) (view v) (members_view xs)) first
    ∙ ap (member (string_bytes y.0) (view y.1)) rest

-- a map that is built from entries whose names ascend has their members
pub collected : (xs : List Entry) (m : BTreeMap (String Global) Value) → IsStrictlySortedBy string_cmp (keys_of xs)
    → IsFromIterResult string_cmp xs m → members_view m.entries ≡ members_view xs
unfolding SameFound
collected xs m ascends made =
    same_members m.entries xs made.1 ascends
    (λ name. made.0 name ∙ update_all_none (eq_by_cmp_equiv string_cmp_total) (eq_by_cmp string_cmp) (λ x y. refl) xs name
    (IsDistinct-from_sorted string_cmp (keys_of xs) ascends))
