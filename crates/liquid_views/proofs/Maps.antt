-- A map's entries and the members that they mean.
use Rattle.std.proofs.Common.{
  ◌≡◌,
  ℕ,
  suc,
  List,
  [],
  ◌∷◌,
  ◌++◌,
  length,
  Option,
  None,
  Some,
  String,
  Global,
  Ordering,
  Less,
  Equal,
  Greater,
  string_bytes,
  string_cmp,
  nat_cmp,
  is_eq,
  is_some,
  cond,
  refl,
  sym,
  ap,
  ◌∙◌,
  append_assoc,
  rules,
}
use Rattle.std.proofs.lemmas.Cmp.{nat_list_cmp_total}
use Rattle.std.specs.Prelude.{◌==◌, option_map}
use Rattle.std.specs.BTreeMap.{is_at}
use Rattle.std.specs.Cmp.Lexicographic.{slice_cmp}
use Rattle.std.specs.List.{AllByRecursion}
use Rattle.std.specs.List.Sorted.{IsStrictlySortedBy}
use Rattle.std.specs.Map.{keys_of, lookup}
use Rattle.std.specs.Ordering.{match_ordering, ordering_reverse}
use Rattle.liquid_value.specs.meaning.Kind.{has_no_members}
use Rattle.liquid_value.specs.meaning.Members.{get_member, put_member, member_count}
use Rattle.liquid_value.specs.meaning.Tree.{Tree, Members, member}
use Rattle.liquid_views.specs.meaning.Trees.{members_by}

pub has_no_members_of_map : {K V : Type 0} (index : K → List ℕ) (tree : V → Tree) (es : List (K × V))
    → has_no_members (members_by index tree es) ≡ (length es == 0)
has_no_members_of_map index tree [] = refl
has_no_members_of_map index tree (e ∷ es) = search rules

pub count_of_map : {K V : Type 0} (index : K → List ℕ) (tree : V → Tree) (es : List (K × V))
    → member_count (members_by index tree es) ≡ length es
count_of_map index tree [] = refl
count_of_map index tree (e ∷ es) = ap suc (count_of_map index tree es)

found_or : {V : Type 0} (tree : V → Tree) (o : Ordering) (v : V) (rest : Option V) (more : Option Tree) → option_map tree rest ≡ more
    → option_map tree (cond (is_eq o) (Some v) rest) ≡ match_ordering o more (Some (tree v)) more
found_or tree Less v rest more e = e
found_or tree Equal v rest more e = refl
found_or tree Greater v rest more e = e

pub value_of_map : {K V : Type 0} (index : K → List ℕ) (tree : V → Tree) (name : List ℕ) (es : List (K × V))
    → option_map tree (lookup (is_at (λ k. slice_cmp nat_cmp name (index k))) es) ≡ get_member name (members_by index tree es)
value_of_map index tree name [] = refl
value_of_map index tree name (e ∷ es) = found_or tree (slice_cmp nat_cmp name (index e.0)) e.1 _ _ (value_of_map index tree name es)

is_some-map : {V : Type 0} (tree : V → Tree) (r : Option V) → is_some (option_map tree r) ≡ is_some r
is_some-map tree None = refl
is_some-map tree (Some v) = refl

pub found_of_map : {K V : Type 0} (index : K → List ℕ) (tree : V → Tree) (name : List ℕ) (es : List (K × V))
    → is_some (lookup (is_at (λ k. slice_cmp nat_cmp name (index k))) es) ≡ is_some (get_member name (members_by index tree es))
found_of_map index tree name es = sym (is_some-map tree _) ∙ ap is_some (value_of_map index tree name es)

below_middle : {K V : Type 0} (cmp : K → K → Ordering) (key : K) (es : List (K × V)) (e : K × V) (more : List (K × V))
    → AllByRecursion (λ y. cmp key y ≡ Less) (keys_of (es ++ e ∷ more)) → cmp key e.0 ≡ Less
below_middle cmp key [] e more h = h.0
below_middle cmp key (x ∷ es) e more h = below_middle cmp key es e more h.1

-- a key above all keys before it is put last, if keys are ordered as their texts
pub put_last : {K V : Type 0} (index : K → List ℕ) (cmp : K → K → Ordering) → ((x y : K) → cmp x y ≡ slice_cmp nat_cmp (index x) (index y))
    → (tree : V → Tree) (done : List (K × V)) (e : K × V) (more : List (K × V)) → IsStrictlySortedBy cmp (keys_of (done ++ e ∷ more))
    → put_member (index e.0) (tree e.1) (members_by index tree done) ≡ members_by index tree (done ++ e ∷ [])
unfolding IsStrictlySortedBy
put_last index cmp ordered tree [] e more h = refl
put_last index cmp ordered tree (first ∷ done) e more h =
    let above : slice_cmp nat_cmp (index e.0) (index first.0) ≡ Greater =
    nat_list_cmp_total.antisymm (index e.0) (index first.0) ∙ ap ordering_reverse
    (sym (ordered first.0 e.0) ∙ below_middle cmp first.0 done e more h.0) in
    rw above (ap (member (index first.0) (tree first.1)) (put_last index cmp ordered tree done e more h.1))

-- the text of the entries so far and the text of this one, before the text of the later ones
pub map_turn : {K V : Type 0} (index : K → List ℕ) (tree : V → Tree) (text : Members → List ℕ) (piece : List ℕ → Tree → List ℕ)
    → ((key : List ℕ) (t : Tree) (ms : Members) → text (member key t ms) ≡ piece key t ++ text ms)
    → (whole done : List ℕ) (es left : List (K × V)) (key : K) (v : V) → es ≡ (key, v) ∷ left
    → whole ≡ done ++ text (members_by index tree es) → whole ≡ (done ++ piece (index key) (tree v)) ++ text (members_by index tree left)
map_turn index tree text piece step whole done es left key v is e =
    e ∙ ap (λ ms. done ++ text (members_by index tree ms)) is ∙ ap (λ more. done ++ more) (step _ _ _)
    ∙ sym (append_assoc done (piece (index key) (tree v)) _)
