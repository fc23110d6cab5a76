-- One turn of a walk over the items of an array, or over the entries of an object.
use Rattle.std.proofs.Common.{
  ◌≡◌,
  ℕ,
  ◌+◌,
  ◌<◌,
  List,
  ◌∷◌,
  ◌++◌,
  length,
  drop,
  get_or,
  String,
  Global,
  string_bytes,
  sym,
  ap,
  ◌∙◌,
  append_assoc,
  add-one,
}
use Rattle.std.proofs.Math.Seq.{drop-cons}
use Rattle.liquid_value.specs.meaning.Tree.{Tree, Items, item, Members, member}
use Rattle.liquid_value.specs.meaning.View.{view, items_view, members_view}
use Rattle.liquid_value.specs.declared.value.Value.{Value}

pub items_view-drop : (vs : List Value) (i : ℕ) (v : Value) → i < length vs → v ≡ get_or vs i v
    → items_view (drop i vs) ≡ item (view v) (items_view (drop (i + 1) vs))
items_view-drop vs i v within is = ap items_view (drop-cons vs i v within) ∙ rw (add-one, ← is)

-- the text of the items so far and the text of this one, before the text of the later ones
pub items_turn : (text : Items → List ℕ) (piece : Tree → List ℕ) → ((t : Tree) (ts : Items) → text (item t ts) ≡ piece t ++ text ts)
    → (whole done : List ℕ) (vs : List Value) (i : ℕ) (v : Value) → i < length vs → v ≡ get_or vs i v
    → whole ≡ done ++ text (items_view (drop i vs)) → whole ≡ (done ++ piece (view v)) ++ text (items_view (drop (i + 1) vs))
items_turn text piece step whole done vs i v within is e =
    e ∙ ap (λ ts. done ++ text ts) (items_view-drop vs i v within is) ∙ ap (λ more. done ++ more) (step _ _)
    ∙ sym (append_assoc done (piece (view v)) _)

-- the same for an entry
pub members_turn : (text : Members → List ℕ) (piece : List ℕ → Tree → List ℕ)
    → ((key : List ℕ) (t : Tree) (ms : Members) → text (member key t ms) ≡ piece key t ++ text ms)
    → (whole done : List ℕ) (es left : List (String Global × Value)) (key : String Global) (v : Value) → es ≡ (key, v) ∷ left
    → whole ≡ done ++ text (members_view es) → whole ≡ (done ++ piece (string_bytes key) (view v)) ++ text (members_view left)
members_turn text piece step whole done es left key v is e =
    e ∙ ap (λ ms. done ++ text (members_view ms)) is ∙ ap (λ more. done ++ more) (step _ _ _)
    ∙ sym (append_assoc done (piece (string_bytes key) (view v)) _)
