-- The tokens of a text, some of which are values already.
use Rattle.std.proofs.Common.{
  ◌≡◌,
  ℕ,
  ℤ,
  pos,
  negsuc,
  ◌^◌,
  SFits,
  w64,
  lt-ltb,
  List,
  [],
  ◌∷◌,
  ◌++◌,
  Option,
  Some,
  None,
  Result,
  Ok,
  Err,
  Ordering,
  Less,
  Equal,
  Greater,
  nat_cmp,
  map,
  option_and_then,
  String,
  BTreeMap,
  Global,
  string_bytes,
  refl,
  sym,
  ap,
  ◌∙◌,
  arith,
  rules,
}
use Rattle.std.proofs.lemmas.List.{map-append}
use Rattle.std.specs.Cmp.Lexicographic.{slice_cmp}
use Rattle.std.specs.Ordering.{match_ordering}
use Rattle.json.specs.Json as json
use Rattle.json.specs.Json.{parse_map}
use Rattle.json.specs.Token.{Token}
use Rattle.serde_json.specs.Data as read
use Rattle.serde_json.specs.Data.{put}
use Rattle.serde_json.specs.Find.{of_integer}
use Rattle.serde_json.specs.Read.{of_json, of_members}
use Rattle.liquid_error.specs.meaning.Refusal.{Refusal, ok_then}
use Rattle.liquid_scalar.specs.declared.scalar.ScalarOf.{ScalarOf}
use Rattle.liquid_scalar.specs.meaning.Scalar.{scal, integer}
use Rattle.liquid_value.specs.meaning.Members.{put_member}
use Rattle.liquid_value.specs.meaning.Tree.{Tree, nil, scalar, object, Items, no_items, item, Members, no_members, member}
use Rattle.liquid_value.specs.meaning.View.{view, items_view, object_view, members_view}
use Rattle.liquid_value.specs.declared.value.Value.{Value, Scalar, Object, Nil, the_lemmas}
use Rattle.liquid_value.specs.declared.shared_object.SharedObject.{SharedObject}
use Rattle.liquid_json.specs.meaning.Given.{value_given, members_given}
use Rattle.liquid_json.specs.steps.Reads.{IsGiven, AreGiven, MembersGiven}
use Rattle.liquid_json.proofs.Given.{joined, joined_none, joined_last, joined_all}

-- ---- the items of an array

-- items after others
abbrev pub following : List json.Json → json.Items → json.Items
following [] rest = rest
following (j ∷ js) rest = json.item j (following js rest)

after_one_more : (js : List json.Json) (j : json.Json) (rest : json.Items) → following js (json.item j rest) ≡ following (js ++ j ∷ []) rest
after_one_more [] j rest = refl
after_one_more (k ∷ js) j rest = ap (json.item k) (after_one_more js j rest)

pub after_none : (r : Option (json.Items × List Token)) → r ≡ parse_map (following []) r
after_none None = refl
after_none (Some p) = refl

pub after_more : (js : List json.Json) (j : json.Json) (r : Option (json.Items × List Token))
    → parse_map (following js) (parse_map (json.item j) r) ≡ parse_map (following (js ++ j ∷ [])) r
after_more js j None = refl
after_more js j (Some p) = ap (λ more. Some (more, p.1)) (after_one_more js j p.0)

-- whatever follows them, the items read are these values
abbrev pub AreMade : List json.Json → List Value → Type 0
AreMade js vs = (rest : json.Items) (ts : Items) → AreGiven rest ts → AreGiven (following js rest) (joined (map view vs) ts)

pub none_made : AreMade [] []
none_made rest ts given = rw (joined_none ts) given

one_given : (j : json.Json) (t : Tree) (rest : json.Items) (ts : Items) → IsGiven j t → AreGiven rest ts
    → AreGiven (json.item j rest) (item t ts)
one_given j t rest ts first more = (read.item first.0 more.0, rw (first.1, more.1) refl, rw (first.2, more.2) refl)

pub one_more_made : (js : List json.Json) (vs : List Value) (j : json.Json) (v : Value) → AreMade js vs → IsGiven j (view v)
    → AreMade (js ++ j ∷ []) (vs ++ v ∷ [])
one_more_made js vs j v made given rest ts more =
    rw (← after_one_more js j rest, map-append view vs (v ∷ []), ← joined_last (map view vs) (view v) ts)
    (made (json.item j rest) (item (view v) ts) (one_given j (view v) rest ts given more))

pub all_made : (js : List json.Json) (vs : List Value) → AreMade js vs → AreGiven (following js json.no_items) (items_view vs)
all_made js vs made = rw (← joined_all (map view vs)) (made json.no_items no_items (read.no_items, refl, refl))

-- ---- the members of an object

-- members after others
abbrev pub put_after : List (List ℕ × json.Json) → json.Members → json.Members
put_after [] rest = rest
put_after (e ∷ es) rest = json.member e.0 e.1 (put_after es rest)

put_after_one_more : (es : List (List ℕ × json.Json)) (k : List ℕ) (j : json.Json) (rest : json.Members)
    → put_after es (json.member k j rest) ≡ put_after (es ++ (k, j) ∷ []) rest
put_after_one_more [] k j rest = refl
put_after_one_more (e ∷ es) k j rest = ap (json.member e.0 e.1) (put_after_one_more es k j rest)

pub put_after_none : (r : Option (json.Members × List Token)) → r ≡ parse_map (put_after []) r
put_after_none None = refl
put_after_none (Some p) = refl

pub put_after_more : (es : List (List ℕ × json.Json)) (k : List ℕ) (j : json.Json) (r : Option (json.Members × List Token))
    → parse_map (put_after es) (parse_map (json.member k j) r) ≡ parse_map (put_after (es ++ (k, j) ∷ [])) r
put_after_more es k j None = refl
put_after_more es k j (Some p) = ap (λ more. Some (more, p.1)) (put_after_one_more es k j p.0)

-- whatever follows them, the members that were read are put in as these
abbrev pub ArePut : List (List ℕ × json.Json) → read.Members → Type 0
ArePut es ds = (rest : json.Members) → of_members (put_after es rest) read.no_members ≡ of_members rest ds

pub none_put : ArePut [] read.no_members
none_put rest = refl

pub one_more_put : (es : List (List ℕ × json.Json)) (ds : read.Members) (k : List ℕ) (j : json.Json) (d : read.Data) → ArePut es ds
    → of_json j ≡ Some d → ArePut (es ++ (k, j) ∷ []) (put k d ds)
one_more_put es ds k j d so_far is rest =
    ap (λ ms. of_members ms read.no_members) (sym (put_after_one_more es k j rest)) ∙ so_far (json.member k j rest)
    ∙ ap (option_and_then (λ e. of_members rest (put k e ds))) is

pub all_put : (es : List (List ℕ × json.Json)) (ds : read.Members) (ts : Members) → ArePut es ds → members_given ds ≡ Ok ts
    → MembersGiven (put_after es json.no_members) ts
all_put es ds ts so_far given = (ds, so_far json.no_members, given)

members_or : Members → Result Members Refusal → Members
members_or other (Ok ts) = ts
members_or other (Err r) = other

ok_is : (ts us : Members) (x : Result Members Refusal) → x ≡ Ok ts → x ≡ Ok us → ts ≡ us
unfolding members_or
ok_is ts us x e f = ap (members_or ts) (sym e ∙ f)

member_parts : (l : List ℕ) (x : Result Tree Refusal) (y : Result Members Refusal) (ts : Members)
    → ok_then x (λ t. ok_then y (λ us. Ok (member l t us))) ≡ Ok ts
    → (u : Tree) × (us : Members) × (x ≡ Ok u) × (y ≡ Ok us) × (member l u us ≡ ts)
member_parts l (Ok u) (Ok us) ts e = (u, us, refl, refl, ok_is (member l u us) ts _ refl e)
member_parts l (Ok u) (Err r) ts e = absurd (cc)
member_parts l (Err r) y ts e = absurd (cc)

member_made : (k : List ℕ) (d : read.Data) (t : Tree) (ds : read.Members) (ts : Members) → value_given d ≡ Ok t → members_given ds ≡ Ok ts
    → members_given (read.member k d ds) ≡ Ok (member k t ts)
member_made k d t ds ts is more = rw (is, more) refl

in_order_made : (o : Ordering) (a b c : read.Members) (x y z : Members) → members_given a ≡ Ok x → members_given b ≡ Ok y
    → members_given c ≡ Ok z → members_given (match_ordering o a b c) ≡ Ok (match_ordering o x y z)
in_order_made Less a b c x y z first second third = first
in_order_made Equal a b c x y z first second third = second
in_order_made Greater a b c x y z first second third = third

-- a member that is put into those that are values already
pub put_made : (k : List ℕ) (d : read.Data) (t : Tree) (ds : read.Members) (ts : Members) → value_given d ≡ Ok t → members_given ds ≡ Ok ts
    → members_given (put k d ds) ≡ Ok (put_member k t ts)
put_made k d t read.no_members ts is done =
    member_made k d t read.no_members no_members is refl ∙ ap (λ us. Ok (put_member k t us)) (ok_is no_members ts _ refl done)
put_made k d t (read.member l e ds) ts is done =
    let p = member_parts l (value_given e) (members_given ds) ts done in
    let all =
    in_order_made (slice_cmp nat_cmp k l) _ _ _ _ _ _ (member_made k d t (read.member l e ds) (member l p.0 p.1) is
    (done ∙ ap Ok (sym p.4))) (member_made l d t ds p.1 is p.3)
    (member_made l e p.0 (put k d ds) (put_member k t p.1) p.2 (put_made k d t ds p.1 is p.3)) in
    all ∙ ap (λ us. Ok (put_member k t us)) p.4

-- ---- a signed integer of 64 bits is given as itself

pub whole_given : (n : ℤ) → SFits w64 n → value_given (read.number (of_integer n)) ≡ Ok (scalar (integer n))
whole_given (pos n) fits = rw (lt-ltb n (2 ^ 63) (grind arith)) refl
whole_given (negsuc n) fits = refl

-- ---- what a value made means

pub view_nil : view Nil ≡ nil
view_nil = search (rules, the_lemmas)

pub view_scalar : (s : ScalarOf (String Global)) → view (Scalar s) ≡ scalar (scal string_bytes s)
view_scalar s = search (rules, the_lemmas)

pub view_object : (h : SharedObject) → view (Object h) ≡ object (object_view h)
view_object h = search (rules, the_lemmas)
