-- The members that the entries of a map without an order give.
use Rattle.std.proofs.Common.{
  ◌≡◌,
  ℕ,
  List,
  [],
  ◌∷◌,
  ◌++◌,
  length,
  Bor,
  String,
  Global,
  false,
  Ordering,
  Less,
  Equal,
  Greater,
  string_bytes,
  nat_cmp,
  refl,
  sym,
  ap,
  ◌∙◌,
  append_assoc,
  rules,
}
use Rattle.std.specs.Prelude.{◌==◌}
use Rattle.std.specs.BTreeMap.{insert_entry}
use Rattle.std.specs.Cmp.Lexicographic.{slice_cmp}
use Rattle.std.specs.Ordering.{match_ordering}
use Rattle.liquid_value.specs.meaning.Kind.{has_no_members}
use Rattle.liquid_value.specs.meaning.Members.{put_member}
use Rattle.liquid_value.specs.meaning.Tree.{Tree, Members, no_members, member}
use Rattle.liquid_views.specs.meaning.Entries.{put_entries, index_members}

some_members : (o : Ordering) (a b c d e f : Members) → has_no_members a ≡ false → has_no_members b ≡ false → has_no_members c ≡ false
    → has_no_members (match_ordering o a b c) ≡ false
some_members Less a b c d e f h k l = h
some_members Equal a b c d e f h k l = k
some_members Greater a b c d e f h k l = l

put_is_some : (k : List ℕ) (t : Tree) (ms : Members) → has_no_members (put_member k t ms) ≡ false
put_is_some k t no_members = refl
put_is_some k t (member q u ms) = some_members (slice_cmp nat_cmp k q) _ _ _ ms ms ms refl refl refl

stays_some : {V : Type 0} (tree : V → Tree) (es : List (String Global × V)) (ms : Members) → has_no_members ms ≡ false
    → has_no_members (put_entries tree es ms) ≡ false
stays_some tree [] ms h = h
stays_some tree (e ∷ es) ms h =
    stays_some tree es (put_member (string_bytes e.0) (tree e.1) ms) (put_is_some (string_bytes e.0) (tree e.1) ms)

pub has_no_members_of_entries : {V : Type 0} (tree : V → Tree) (es : List (String Global × V))
    → has_no_members (put_entries tree es no_members) ≡ (length es == 0)
has_no_members_of_entries tree [] = refl
has_no_members_of_entries tree (e ∷ es) =
    let some : has_no_members (put_entries tree es (put_member (string_bytes e.0) (tree e.1) no_members)) ≡ false =
    stays_some tree es (put_member (string_bytes e.0) (tree e.1) no_members) refl in
    some ∙ search rules

abbrev pub borrowed_cmp : Bor (List ℕ) → Bor (List ℕ) → Ordering
borrowed_cmp x y = slice_cmp nat_cmp x.now y.now

index-match_ordering : {V : Type 0} (tree : V → Tree) (o : Ordering) (a b c : List (Bor (List ℕ) × Bor V))
    → index_members tree (match_ordering o a b c) ≡ match_ordering o (index_members tree a) (index_members tree b) (index_members tree c)
index-match_ordering tree Less a b c = refl
index-match_ordering tree Equal a b c = refl
index-match_ordering tree Greater a b c = refl

pub index_members-insert_entry : {V : Type 0} (tree : V → Tree) (es : List (Bor (List ℕ) × Bor V)) (k : Bor (List ℕ)) (v : Bor V)
    → index_members tree (insert_entry borrowed_cmp es k v) ≡ put_member k.now (tree v.now) (index_members tree es)
index_members-insert_entry tree [] k v = refl
index_members-insert_entry tree (e ∷ es) k v =
    index-match_ordering tree (borrowed_cmp k e.0) _ _ _ ∙ rw (index_members-insert_entry tree es k v)

-- the text of the entries so far and the text of this one, before the text of the later ones
pub index_turn : {V : Type 0} (tree : V → Tree) (text : Members → List ℕ) (piece : List ℕ → Tree → List ℕ)
    → ((key : List ℕ) (t : Tree) (ms : Members) → text (member key t ms) ≡ piece key t ++ text ms)
    → (whole done : List ℕ) (es left : List (Bor (List ℕ) × Bor V)) (key : Bor (List ℕ)) (v : Bor V) → es ≡ (key, v) ∷ left
    → whole ≡ done ++ text (index_members tree es) → whole ≡ (done ++ piece key.now (tree v.now)) ++ text (index_members tree left)
index_turn tree text piece step whole done es left key v is e =
    e ∙ ap (λ ms. done ++ text (index_members tree ms)) is ∙ ap (λ more. done ++ more) (step _ _ _)
    ∙ sym (append_assoc done (piece key.now (tree v.now)) _)
