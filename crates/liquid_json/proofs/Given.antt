-- A walk over the items of an array, or the members of an object, some of which are values already.
use Rattle.std.proofs.Common.{
  ◌≡◌,
  ℕ,
  List,
  [],
  ◌∷◌,
  ◌++◌,
  Result,
  Ok,
  Err,
  Option,
  Some,
  None,
  String,
  Global,
  map,
  length,
  string_bytes,
  refl,
  sym,
  ap,
  ◌∙◌,
  arith,
}
use Rattle.std.specs.Map.{keys_of}
use Rattle.std.specs.Prelude.{IfSome}
use Rattle.std.proofs.lemmas.List.{map-append}
use Rattle.std.proofs.lemmas.Simd.{map-map}
use Rattle.serde_json.specs.Data as json
use Rattle.liquid_error.specs.declared.error.Error.{Error}
use Rattle.liquid_error.specs.meaning.Refusal.{Refusal, ok_then}
use Rattle.liquid_error.specs.meaning.Told.{told, Gives}
use Rattle.liquid_value.specs.meaning.Tree.{Tree, Items, no_items, item, Members, no_members, member}
use Rattle.liquid_value.specs.meaning.View.{view, items_of, items_view, members_view, entry_view}
use Rattle.liquid_value.specs.declared.value.Value.{Value}
use Rattle.liquid_json.specs.meaning.Given.{value_given, items_given, members_given}
use Rattle.liquid_json.proofs.Collected.{named}

abbrev Entry : Type 0
Entry = String Global × Value

-- the items with others before them
pub joined : List Tree → Items → Items
joined [] ts = ts
joined (x ∷ xs) ts = item x (joined xs ts)

-- what the items that are left give, after those that are values already
pub after_items : List Tree → Result Items Refusal → Result Items Refusal
after_items done rest = ok_then rest (λ ts. Ok (joined done ts))

pub no_item_yet : (rest : Result Items Refusal) → rest ≡ after_items [] rest
unfolding after_items joined
no_item_yet (Ok ts) = refl
no_item_yet (Err r) = refl

pub joined_none : (ts : Items) → joined [] ts ≡ ts
unfolding joined
joined_none ts = refl

pub joined_last : (xs : List Tree) (x : Tree) (ts : Items) → joined xs (item x ts) ≡ joined (xs ++ x ∷ []) ts
unfolding joined
joined_last [] x ts = refl
joined_last (y ∷ xs) x ts = ap (item y) (joined_last xs x ts)

item_after : (done : List Tree) (t : Tree) (rest : Result Items Refusal)
    → after_items done (ok_then rest (λ ts. Ok (item t ts))) ≡ after_items (done ++ t ∷ []) rest
unfolding after_items
item_after done t (Ok ts) = ap Ok (joined_last done t ts)
item_after done t (Err r) = refl

pub item_given : (all : Result Items Refusal) (done : List Value) (v : Value) (d : json.Data) (ds : json.Items)
    → all ≡ after_items (map view done) (items_given (json.item d ds))
    → value_given d ≡ Ok (view v) → all ≡ after_items (map view (done ++ v ∷ [])) (items_given ds)
item_given all done v d ds so_far is =
    so_far ∙ ap (λ first. after_items (map view done) (ok_then first (λ t. ok_then (items_given ds) (λ ts. Ok (item t ts))))) is
    ∙ item_after (map view done) (view v) (items_given ds)
    ∙ ap (λ trees. after_items trees (items_given ds)) (sym (map-append view done (v ∷ [])))

item_refused : (all : Result Items Refusal) (done : List Tree) (d : json.Data) (ds : json.Items) (r : Refusal)
    → all ≡ after_items done (items_given (json.item d ds)) → value_given d ≡ Err r → all ≡ Err r
unfolding after_items
item_refused all done d ds r so_far is =
    so_far ∙ ap (λ first. after_items done (ok_then first (λ t. ok_then (items_given ds) (λ ts. Ok (item t ts))))) is

pub item_refusal : (all : Result Items Refusal) (done : List Tree) (d : json.Data) (ds : json.Items) (t : Option Refusal)
    → all ≡ after_items done (items_given (json.item d ds))
    → IfSome t (λ r. value_given d ≡ Err r) → IfSome t (λ r. all ≡ Err r)
item_refusal all done d ds None so_far refused = tt
item_refusal all done d ds (Some r) so_far refused = item_refused all done d ds r so_far refused

pub joined_all : (xs : List Tree) → joined xs no_items ≡ items_of xs
unfolding joined
joined_all [] = refl
joined_all (x ∷ xs) = ap (item x) (joined_all xs)

pub items_done : (all : Result Items Refusal) (done : List Value) → all ≡ after_items (map view done) (items_given json.no_items)
    → all ≡ Ok (items_view done)
unfolding after_items
items_done all done so_far = so_far ∙ ap Ok (joined_all (map view done))

-- the same of members
joined_members : List (List ℕ × Tree) → Members → Members
joined_members [] ts = ts
joined_members (x ∷ xs) ts = member x.0 x.1 (joined_members xs ts)

pub after_members : List (List ℕ × Tree) → Result Members Refusal → Result Members Refusal
after_members done rest = ok_then rest (λ ts. Ok (joined_members done ts))

pub no_member_yet : (rest : Result Members Refusal) → rest ≡ after_members [] rest
unfolding after_members joined_members
no_member_yet (Ok ts) = refl
no_member_yet (Err r) = refl

joined_members_last : (xs : List (List ℕ × Tree)) (x : List ℕ × Tree) (ts : Members)
    → joined_members xs (member x.0 x.1 ts) ≡ joined_members (xs ++ x ∷ []) ts
unfolding joined_members
joined_members_last [] x ts = refl
joined_members_last (y ∷ xs) x ts = ap (member y.0 y.1) (joined_members_last xs x ts)

member_after : (done : List (List ℕ × Tree)) (x : List ℕ × Tree) (rest : Result Members Refusal)
    → after_members done (ok_then rest (λ ts. Ok (member x.0 x.1 ts))) ≡ after_members (done ++ x ∷ []) rest
unfolding after_members
member_after done x (Ok ts) = ap Ok (joined_members_last done x ts)
member_after done x (Err r) = refl

pub member_given : (all : Result Members Refusal) (done : List Entry) (name : String Global) (v : Value) (d : json.Data) (ds : json.Members)
    → all ≡ after_members (map entry_view done) (members_given (json.member (string_bytes name) d ds))
    → value_given d ≡ Ok (view v) → all ≡ after_members (map entry_view (done ++ (name, v) ∷ [])) (members_given ds)
member_given all done name v d ds so_far is =
    so_far ∙ ap (λ first. after_members (map entry_view done) (ok_then first
    (λ t. ok_then (members_given ds) (λ ts. Ok (member (string_bytes name) t ts))))) is
    ∙ member_after (map entry_view done) (entry_view (name, v)) (members_given ds)
    ∙ ap (λ trees. after_members trees (members_given ds)) (sym (map-append entry_view done ((name, v) ∷ [])))

member_refused : (all : Result Members Refusal) (done : List (List ℕ × Tree)) (name : List ℕ) (d : json.Data) (ds : json.Members)
    (r : Refusal)
    → all ≡ after_members done (members_given (json.member name d ds)) → value_given d ≡ Err r → all ≡ Err r
unfolding after_members
member_refused all done name d ds r so_far is =
    so_far ∙ ap (λ first. after_members done (ok_then first (λ t. ok_then (members_given ds) (λ ts. Ok (member name t ts))))) is

pub member_refusal : (all : Result Members Refusal) (done : List (List ℕ × Tree)) (name : List ℕ) (d : json.Data) (ds : json.Members)
    (t : Option Refusal)
    → all ≡ after_members done (members_given (json.member name d ds)) → IfSome t (λ r. value_given d ≡ Err r) → IfSome t (λ r. all ≡ Err r)
member_refusal all done name d ds None so_far refused = tt
member_refusal all done name d ds (Some r) so_far refused = member_refused all done name d ds r so_far refused

joined_members_all : (es : List Entry) → joined_members (map entry_view es) no_members ≡ members_view es
unfolding joined_members
joined_members_all [] = refl
joined_members_all (e ∷ es) = ap (member (string_bytes e.0) (view e.1)) (joined_members_all es)

-- entries that are the same by name have the same members
pub members_by_name : (xs ys : List Entry) → map named xs ≡ map named ys → members_view xs ≡ members_view ys
members_by_name xs ys same =
    sym (joined_members_all xs) ∙ ap (λ es. joined_members es no_members)
    (sym (map-map viewed named xs) ∙ ap (map viewed) same ∙ map-map viewed named ys) ∙ joined_members_all ys
  where
    viewed : List ℕ × Value → List ℕ × Tree
    viewed e = (e.0, view e.1)

pub members_done : (all : Result Members Refusal) (done : List Entry)
    → all ≡ after_members (map entry_view done) (members_given json.no_members) → all ≡ Ok (members_view done)
unfolding after_members
members_done all done so_far = so_far ∙ ap Ok (joined_members_all done)

pub refuses : {A B : Type 0} (f : A → B) (result : Result A Error) (e : Error) (meant : Result B Refusal) → result ≡ Err e
    → IfSome (told e) (λ r. meant ≡ Err r) → Gives f result meant
refuses f result e meant is refused = rw is refused

pub nothing_left : {X : Type 0} (xs : List X) → length xs ≡ 0 → xs ≡ []
nothing_left [] none = refl
nothing_left (x ∷ xs) none = absurd (omega arith)

pub keys_more : (es : List Entry) (name : String Global) (v : Value) (more : List (String Global)) → keys_of es ++ name
    ∷ more ≡ keys_of (es ++ (name, v) ∷ []) ++ more
keys_more [] name v more = refl
keys_more (e ∷ es) name v more = ap (λ ks. e.0 ∷ ks) (keys_more es name v more)
