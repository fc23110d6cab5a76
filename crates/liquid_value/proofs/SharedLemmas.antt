-- What a value holds, its own or shared: the items of an array, and the members of an object.
use Rattle.std.proofs.Common.{◌≡◌, List, [], ◌∷◌, ◌⊎◌, ⊎_elim, BTreeMap, String, Global, string_bytes, refl, ap, ◌∙◌, rules}
use Rattle.std.specs.Global.{Vec}
use Rattle.std.specs.List.{AllZip}
use Rattle.std.specs.Vec.{vec_len}
use Rattle.std.specs.BTreeMap.{IsClone}
use Rattle.std.specs.declared.rc.Rc.{Rc}
use Rattle.liquid_value.proofs.Entries.{Entry}
use Rattle.liquid_value.specs.meaning.Tree.{item, member}
use Rattle.liquid_value.specs.declared.shared_array.SharedArray as shared_array
use Rattle.liquid_value.specs.declared.shared_object.SharedObject.{Own, Shared, the_lemmas}
use Rattle.liquid_value.specs.declared.value.Value.{Value}
use Rattle.liquid_value.specs.meaning.View.{view, array_view, items_view, object_view, members_view}

pub items-Own : (v : Vec Value) → array_view (shared_array.Own v) ≡ items_view v.items
items-Own v = search (rules, shared_array.the_lemmas)

pub items-Shared : (r : Rc (Vec Value) Global) → array_view (shared_array.Shared r) ≡ items_view r.value.items
items-Shared r = search (rules, shared_array.the_lemmas)

pub members-Own : (m : BTreeMap (String Global) Value) → object_view (Own m) ≡ members_view m.entries
members-Own m = search (rules, the_lemmas)

pub members-Shared : (r : Rc (BTreeMap (String Global) Value) Global) → object_view (Shared r) ≡ members_view r.value.entries
members-Shared r = search (rules, the_lemmas)

-- the items of a copy of a list
copied_items : (xs ys : List Value) → AllZip (λ (v w : Value). view w ≡ view v) xs ys → items_view ys ≡ items_view xs
copied_items [] [] h = refl
copied_items [] (y ∷ ys) h = absurd h
copied_items (x ∷ xs) [] h = absurd h
copied_items (x ∷ xs) (y ∷ ys) h = ap (λ t. item t (items_view ys)) h.0 ∙ ap (item (view x)) (copied_items xs ys h.1)

pub same_or_copied_list : (v w : Vec Value) → (w ≡ v) ⊎ (AllZip (λ (x y : Value). view y ≡ view x) v.items w.items
    × (vec_len w ≡ vec_len v)) → items_view w.items ≡ items_view v.items
same_or_copied_list v w h = ⊎_elim (λ e. ap (λ (k : Vec Value). items_view k.items) e) (λ k. copied_items v.items w.items k.0) h

-- the members of a copy of a map
copied : (xs ys : List Entry) → AllZip (λ (p q : Entry). (string_bytes q.0 ≡ string_bytes p.0) × (view q.1 ≡ view p.1)) xs ys
    → members_view ys ≡ members_view xs
copied [] [] h = refl
copied [] (y ∷ ys) h = absurd h
copied (x ∷ xs) [] h = absurd h
copied (x ∷ xs) (y ∷ ys) h =
    ap (λ k. member k (view y.1) (members_view ys)) h.0.0 ∙ ap (λ t. member (string_bytes x.0) t (members_view ys)) h.0.1
    ∙ ap (member (string_bytes x.0) (view x.1)) (copied xs ys h.1)

pub same_or_copied_map : (m n : BTreeMap (String Global) Value) → (n ≡ m) ⊎ IsClone
    (λ (s t : String Global). string_bytes t ≡ string_bytes s) (λ v w. view w ≡ view v) m n
    → members_view n.entries ≡ members_view m.entries
same_or_copied_map m n h = ⊎_elim (λ e. ap (λ (k : BTreeMap (String Global) Value). members_view k.entries) e)
    (λ k. copied m.entries n.entries k) h

-- an equation followed by one that a premise gives
pub and_then : {A H : Type 0} {a b c : A} → a ≡ b → (H → b ≡ c) → H → a ≡ c
and_then p q h = p ∙ q h
