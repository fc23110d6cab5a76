-- Paths of names, and a member that is put twice.
use Rattle.std.proofs.Common.{
  ◌≡◌,
  ℕ,
  List,
  [],
  ◌∷◌,
  Ordering,
  Less,
  Equal,
  Greater,
  Option,
  Some,
  None,
  Result,
  Err,
  String,
  Global,
  cond,
  nat_cmp,
  string_bytes,
  is_eq,
  length,
  ◌≢◌,
  refl,
  sym,
  ap,
  ◌∙◌,
  rules,
  arith,
}
use Rattle.std.specs.Prelude.{IfOk, IfErr, option_map, option_and_then, ◌==◌, if◌then◌else◌}
use Rattle.std.proofs.lemmas.Cmp.{nat_list_cmp_total}
use Rattle.std.specs.BTreeMap.{is_at}
use Rattle.std.specs.Cmp.{tied_itself}
use Rattle.std.specs.Cmp.Lexicographic.{slice_cmp}
use Rattle.std.specs.Map.{lookup}
use Rattle.std.specs.Ordering.{match_ordering}
use Rattle.liquid_value.specs.declared.value.Value.{Value}
use Rattle.liquid_value.specs.meaning.Members.{get_member, put_member}
use Rattle.liquid_scalar.specs.meaning.Scalar.{text}
use Rattle.liquid_value.specs.declared.value.Value.{Nil, the_lemmas}
use Rattle.liquid_value.specs.meaning.Tree.{Tree, nil, scalar, object, Members, no_members, member}
use Rattle.page_site.specs.declared.data_files.assign.SetFault.{SetFault}
use Rattle.page_site.specs.meaning.data_files.Merged.{object_found, put_named, set_at}
use Rattle.liquid_value.specs.meaning.View.{view, members_view}

same_text : (xs : List ℕ) → slice_cmp nat_cmp xs xs ≡ Equal
same_text xs = tied_itself nat_list_cmp_total xs

put_again_at : (o : Ordering) (k l : List ℕ) (t u v : Tree) (ms : Members) → slice_cmp nat_cmp k l ≡ o
    → put_member k t (put_member k u ms) ≡ put_member k t ms
    → put_member k t (match_ordering o (member k u (member l v ms)) (member l u ms) (member l v (put_member k u ms)))
    ≡ match_ordering o (member k t (member l v ms)) (member l t ms) (member l v (put_member k t ms))
put_again_at Less k l t u v ms is later = rw same_text refl
put_again_at Equal k l t u v ms is later = rw is refl
put_again_at Greater k l t u v ms is later = rw (is, later) refl

-- the later value of a name stays
pub put_again : (k : List ℕ) (t u : Tree) (ms : Members) → put_member k t (put_member k u ms) ≡ put_member k t ms
put_again k t u no_members = rw same_text refl
put_again k t u (member l v ms) = put_again_at _ k l t u v ms refl (put_again k t u ms)

found_or : (o : Ordering) (v : Value) (rest : Option Value) (more : Option Tree) → option_map view rest ≡ more
    → option_map view (cond (is_eq o) (Some v) rest) ≡ match_ordering o more (Some (view v)) more
found_or Less v rest more e = e
found_or Equal v rest more e = refl
found_or Greater v rest more e = e

-- the value of a key is the member of that name
pub value_of_member : (name : List ℕ) (es : List (String Global × Value))
    → option_map view (lookup (is_at (λ k. slice_cmp nat_cmp name (string_bytes k))) es) ≡ get_member name (members_view es)
value_of_member name [] = refl
value_of_member name (e ∷ es) = found_or (slice_cmp nat_cmp name (string_bytes e.0)) e.1 _ _ (value_of_member name es)

pub nil_view : view Nil ≡ nil
nil_view = search (rules, the_lemmas)

put_named_again : (name : List ℕ) (t u : Tree) (ms : Members) → put_named name t (put_member name u ms) ≡ put_named name t ms
put_named_again name t u ms = ap (λ more. if length name == 0 then None else Some more) (put_again name t u ms)

-- the last name of a path, and one with others after it
pub last_name : (name : List ℕ) (rest : List (List ℕ)) (words : List ℕ) (ms : Members) → length rest ≡ 0
    → set_at (name ∷ rest) words ms ≡ put_named name (scalar (text words)) ms
last_name name [] words ms none = refl
last_name name (next ∷ rest) words ms none = absurd (omega arith)

deeper : (name : List ℕ) (rest : List (List ℕ)) (words : List ℕ) (ms : Members) → length rest ≢ 0
    → set_at (name ∷ rest) words ms
    ≡ option_and_then (λ inner. put_named name (object inner) ms) (option_and_then (set_at rest words) (object_found (get_member name ms)))
deeper name [] words ms some = absurd (some refl)
deeper name (next ∷ rest) words ms some = refl

pub no_object : (name : List ℕ) (rest : List (List ℕ)) (words : List ℕ) (ms : Members) → length rest ≢ 0
    → object_found (get_member name ms) ≡ None → set_at (name ∷ rest) words ms ≡ None
no_object name rest words ms some none = deeper name rest words ms some
    ∙ ap (λ found. option_and_then (λ inner. put_named name (object inner) ms) (option_and_then (set_at rest words) found)) none

pub inside : (name : List ℕ) (rest : List (List ℕ)) (words : List ℕ) (ms inner : Members) (changed : Option Members) → length rest ≢ 0
    → object_found (get_member name ms) ≡ Some inner → set_at rest words inner ≡ changed
    → set_at (name ∷ rest) words ms ≡ option_and_then (λ more. put_named name (object more) ms) changed
inside name rest words ms inner changed some found is = deeper name rest words ms some
    ∙ ap (λ found. option_and_then (λ inner. put_named name (object inner) ms) (option_and_then (set_at rest words) found)) found
    ∙ ap (option_and_then (λ inner. put_named name (object inner) ms)) is

-- the object at the name may be nil before it is put
pub put_inside : (name : List ℕ) (rest : List (List ℕ)) (words : List ℕ) (ms left inner changed : Members) → length rest ≢ 0
    → object_found (get_member name ms) ≡ Some inner → set_at rest words inner ≡ Some changed → left ≡ put_member name nil ms
    → set_at (name ∷ rest) words ms ≡ put_named name (object changed) left
put_inside name rest words ms left inner changed some found is at =
    inside name rest words ms inner (Some changed) some found is
    ∙ sym (ap (put_named name (object changed)) at ∙ put_named_again name (object changed) nil ms)

pub fails : {A : Type 0} (result : Result A SetFault) (fault : SetFault) (P : A → Type 0) (Q : SetFault → Type 0) → result ≡ Err fault
    → Q fault → IfOk result P × IfErr result Q
fails result fault P Q is refused = rw is (tt, refused)
