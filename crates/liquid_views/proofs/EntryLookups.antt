-- What is found at a name among the members that the entries of a map without an order give.
use Rattle.std.proofs.Common.{
  Bor,
  ◌≡◌,
  ℕ,
  suc,
  ◌+◌,
  List,
  [],
  ◌∷◌,
  length,
  Option,
  None,
  Some,
  String,
  Global,
  Bool,
  true,
  false,
  true≢false,
  Ordering,
  Less,
  Equal,
  Greater,
  string_bytes,
  nat_cmp,
  is_eq,
  bytes_eq,
  cond,
  refl,
  sym,
  ap,
  ◌∙◌,
  subst,
  arith,
}
use Rattle.std.proofs.lemmas.Cmp.{nat_list_cmp_total, tied_itself}
use Rattle.std.proofs.lemmas.Map.Text.{is_eq-slice_cmp}
use Rattle.std.proofs.lemmas.Slice.Eq.{bytes_eq-Decides}
use Rattle.std.specs.Prelude.{option_map}
use Rattle.std.specs.Cmp.Lexicographic.{slice_cmp}
use Rattle.std.specs.List.{AllByRecursion, IsDistinct}
use Rattle.std.specs.Map.{keys_of, lookup}
use Rattle.std.specs.Ordering.{match_ordering}
use Rattle.liquid_value.specs.meaning.Members.{get_member, put_member, member_count}
use Rattle.liquid_value.specs.meaning.Tree.{Tree, Members, no_members, member}
use Rattle.liquid_views.specs.meaning.Entries.{put_entries}

same_text : (xs : List ℕ) → slice_cmp nat_cmp xs xs ≡ Equal
same_text xs = tied_itself nat_list_cmp_total xs

put_same_at : (o : Ordering) (k l : List ℕ) (t u : Tree) (ms : Members) → slice_cmp nat_cmp k l ≡ o
    → get_member k (put_member k t ms) ≡ Some t
    → get_member k (match_ordering o (member k t (member l u ms)) (member l t ms) (member l u (put_member k t ms))) ≡ Some t
put_same_at Less k l t u ms is later = rw same_text
put_same_at Equal k l t u ms is later = rw is
put_same_at Greater k l t u ms is later = rw is later

-- what was put at a name is found there
put_same : (k : List ℕ) (t : Tree) (ms : Members) → get_member k (put_member k t ms) ≡ Some t
put_same k t no_members = rw same_text
put_same k t (member l u ms) = put_same_at _ k l t u ms refl (put_same k t ms)

either : (o : Ordering) (a b : Option Tree) → is_eq o ≡ false → match_ordering o a b a ≡ a
either Less a b e = refl
either Equal a b e = absurd (true≢false e)
either Greater a b e = refl

differ : (xs ys : List ℕ) (b : Bool) → bytes_eq xs ys ≡ b → (xs ≡ ys → ⊥) → b ≡ false
differ xs ys true e other = absurd (other ((bytes_eq-Decides xs ys).0 e))
differ xs ys false e other = refl

skips : (q k : List ℕ) (t : Tree) (ms : Members) → (q ≡ k → ⊥) → get_member q (member k t ms) ≡ get_member q ms
skips q k t ms other = either (slice_cmp nat_cmp q k) _ _ (is_eq-slice_cmp q k ∙ differ q k _ refl other)

put_other_at : (o : Ordering) (q k l : List ℕ) (t u : Tree) (ms : Members) → slice_cmp nat_cmp k l ≡ o → (q ≡ k → ⊥)
    → get_member q (put_member k t ms) ≡ get_member q ms
    → get_member q (match_ordering o (member k t (member l u ms)) (member l t ms) (member l u (put_member k t ms))) ≡ get_member q
    (member l u ms)
put_other_at Less q k l t u ms is other later = skips q k t (member l u ms) other
put_other_at Equal q k l t u ms is other later =
    let same : k ≡ l = (bytes_eq-Decides k l).0 (sym (is_eq-slice_cmp k l) ∙ ap is_eq is) in
    let apart = λ (h : q ≡ l). other (h ∙ sym same) in
    skips q l t ms apart ∙ sym (skips q l u ms apart)
put_other_at Greater q k l t u ms is other later = ap (λ r. match_ordering (slice_cmp nat_cmp q l) r (Some u) r) later

-- the other names keep their values
put_other : (q k : List ℕ) (t : Tree) (ms : Members) → (q ≡ k → ⊥) → get_member q (put_member k t ms) ≡ get_member q ms
put_other q k t no_members other = skips q k t no_members other
put_other q k t (member l u ms) other = put_other_at _ q k l t u ms refl other (put_other q k t ms other)

apart : (xs ys : List ℕ) → bytes_eq xs ys ≡ false → xs ≡ ys → ⊥
apart xs ys e same = true≢false (sym ((bytes_eq-Decides xs ys).1 same) ∙ e)

-- a name that is not one of the entries' is found as before
untouched : {V : Type 0} (tree : V → Tree) (name : List ℕ) (es : List (String Global × V)) (ms : Members)
    → AllByRecursion (λ k. bytes_eq name (string_bytes k) ≡ false) (keys_of es)
    → get_member name (put_entries tree es ms) ≡ get_member name ms
untouched tree name [] ms h = refl
untouched tree name (e ∷ es) ms h =
    untouched tree name es (put_member (string_bytes e.0) (tree e.1) ms) h.1
    ∙ put_other name (string_bytes e.0) (tree e.1) ms (apart name (string_bytes e.0) h.0)

abbrev pub text_eq : String Global → String Global → Bool
text_eq x y = bytes_eq (string_bytes x) (string_bytes y)

renamed : (name : List ℕ) (k : String Global) (ks : List (String Global)) → name ≡ string_bytes k
    → AllByRecursion (λ y. text_eq k y ≡ false) ks → AllByRecursion (λ y. bytes_eq name (string_bytes y) ≡ false) ks
renamed name k [] same h = h
renamed name k (y ∷ ks) same h = (ap (λ text. bytes_eq text (string_bytes y)) same ∙ h.0, renamed name k ks same h.1)

found_at : {V : Type 0} (tree : V → Tree) (name : List ℕ) (e : String Global × V) (es : List (String Global × V)) (ms : Members) (b : Bool)
    → bytes_eq name (string_bytes e.0) ≡ b
    → AllByRecursion (λ y. text_eq e.0 y ≡ false) (keys_of es) → get_member name ms ≡ None
    → ((others : Members) → get_member name others ≡ None → option_map tree
    (lookup (λ k. bytes_eq name (string_bytes k)) es) ≡ get_member name (put_entries tree es others))
    → option_map tree (cond b (Some e.1) (lookup (λ k. bytes_eq name (string_bytes k)) es)) ≡ get_member name
    (put_entries tree es (put_member (string_bytes e.0) (tree e.1) ms))
found_at tree name e es ms true is distinct none later =
    let same : name ≡ string_bytes e.0 = (bytes_eq-Decides name (string_bytes e.0)).0 is in
    sym (untouched tree name es (put_member (string_bytes e.0) (tree e.1) ms) (renamed name e.0 (keys_of es) same distinct)
    ∙ ap (λ text. get_member text (put_member (string_bytes e.0) (tree e.1) ms)) same ∙ put_same (string_bytes e.0) (tree e.1) ms)
found_at tree name e es ms false is distinct none later =
    later (put_member (string_bytes e.0) (tree e.1) ms) (put_other name (string_bytes e.0) (tree e.1) ms (apart name (string_bytes e.0) is)
    ∙ none)

found_from : {V : Type 0} (tree : V → Tree) (name : List ℕ) (es : List (String Global × V)) (ms : Members) → IsDistinct text_eq (keys_of es)
    → get_member name ms ≡ None
    → option_map tree (lookup (λ k. bytes_eq name (string_bytes k)) es) ≡ get_member name (put_entries tree es ms)
unfolding IsDistinct
found_from tree name [] ms h none = sym none
found_from tree name (e ∷ es) ms h none =
    found_at tree name e es ms _ refl h.0 none (λ others nothing. found_from tree name es others h.1 nothing)

-- what a map without an order gives at a name is the member of that name
pub value_of_entries : {V : Type 0} (tree : V → Tree) (name : List ℕ) (es : List (String Global × V)) → IsDistinct text_eq (keys_of es)
    → option_map tree (lookup (λ k. bytes_eq name (string_bytes k)) es) ≡ get_member name (put_entries tree es no_members)
value_of_entries tree name es h = found_from tree name es no_members h refl

count_put_at : (o : Ordering) (k l : List ℕ) (t u : Tree) (ms : Members) → get_member k ms ≡ None
    → match_ordering o None (Some u) None ≡ None → member_count (put_member k t ms) ≡ suc (member_count ms)
    → member_count (match_ordering o (member k t (member l u ms)) (member l t ms) (member l u (put_member k t ms))) ≡ suc
    (suc (member_count ms))
count_put_at Less k l t u ms none is later = refl
count_put_at Equal k l t u ms none is later = cc
count_put_at Greater k l t u ms none is later = ap suc later

rest_none : (o : Ordering) (a b : Option Tree) → match_ordering o a b a ≡ None → (b ≡ None → ⊥) → a ≡ None
rest_none Less a b e some = e
rest_none Equal a b e some = absurd (some e)
rest_none Greater a b e some = e

is_some_tree : (t : Tree) → Some t ≡ None → ⊥
is_some_tree t e = cc

-- a new name is one more member
count_put : (k : List ℕ) (t : Tree) (ms : Members) → get_member k ms ≡ None → member_count (put_member k t ms) ≡ suc (member_count ms)
count_put k t no_members none = refl
count_put k t (member l u ms) none =
    let rest : get_member k ms ≡ None = rest_none (slice_cmp nat_cmp k l) (get_member k ms) (Some u) none (is_some_tree u) in
    count_put_at (slice_cmp nat_cmp k l) k l t u ms rest (subst (λ r. match_ordering (slice_cmp nat_cmp k l) r (Some u) r ≡ None) rest none)
    (count_put k t ms rest)

still_new : (k : String Global) (t : Tree) (ks : List (String Global)) (ms : Members) → AllByRecursion (λ y. text_eq k y ≡ false) ks
    → AllByRecursion (λ y. get_member (string_bytes y) ms ≡ None) ks
    → AllByRecursion (λ y. get_member (string_bytes y) (put_member (string_bytes k) t ms) ≡ None) ks
still_new k t [] ms distinct new = distinct
still_new k t (y ∷ ks) ms distinct new = (
  put_other (string_bytes y) (string_bytes k) t ms (λ same. apart (string_bytes k) (string_bytes y) distinct.0 (sym same)) ∙ new.0,
  still_new k t ks ms distinct.1 new.1,
)

count_from : {V : Type 0} (tree : V → Tree) (es : List (String Global × V)) (ms : Members) → IsDistinct text_eq (keys_of es)
    → AllByRecursion (λ y. get_member (string_bytes y) ms ≡ None) (keys_of es)
    → member_count (put_entries tree es ms) ≡ length es + member_count ms
unfolding IsDistinct
count_from tree [] ms h new = omega arith
count_from tree (e ∷ es) ms h new =
    let later : member_count (put_entries tree es (put_member (string_bytes e.0) (tree e.1) ms)) ≡ length es + member_count
    (put_member (string_bytes e.0) (tree e.1) ms) =
    count_from tree es (put_member (string_bytes e.0) (tree e.1) ms) h.1 (still_new e.0 (tree e.1) (keys_of es) ms h.0 new.1) in
    let more : member_count (put_member (string_bytes e.0) (tree e.1) ms) ≡ suc (member_count ms) =
    count_put (string_bytes e.0) (tree e.1) ms new.0 in
    omega arith

all_new : (ks : List (String Global)) → AllByRecursion (λ y. get_member (string_bytes y) no_members ≡ None) ks
all_new [] = tt
all_new (k ∷ ks) = (refl, all_new ks)

-- a map without an order has as many members as entries
pub count_of_entries : {V : Type 0} (tree : V → Tree) (es : List (String Global × V)) → IsDistinct text_eq (keys_of es)
    → member_count (put_entries tree es no_members) ≡ length es
count_of_entries tree es h =
    let all : member_count (put_entries tree es no_members) ≡ length es + 0 = count_from tree es no_members h (all_new (keys_of es)) in
    omega arith

pub copied_tree : {V : Type 0} (tree : V → Tree) (r : Option (Bor V))
    → option_map (λ (v : Bor V). tree v.now) r ≡ option_map tree (option_map (λ (v : Bor V). v.now) r)
copied_tree tree None = refl
copied_tree tree (Some v) = refl
