-- What the names of a loop's turn give.
use Rattle.std.proofs.Common.{◌≡◌, ℕ, Bool, true, false, cond, List, Some, None, refl, sym, ap, ◌∙◌, inl, inr}
use Rattle.std.specs.Prelude.{codes, string_bytes}
use Rattle.std.specs.Str.{bytes_eq}
use Rattle.std.specs.Ordering.{nat_cmp}
use Rattle.std.specs.Cmp.Lexicographic.{slice_cmp, nat_list_cmp_total}
use Rattle.std.specs.FinMap.{get, empty, insert, get-empty, get-insert}
use Rattle.std.proofs.lemmas.Map.Text.{is_eq-slice_cmp}
use Rattle.std.specs.Prelude.{String, is_some, ◌||◌}
use Rattle.std.specs.Cmp.{eq_by_cmp_equiv}
use Rattle.std.specs.declared.alloc.Global.{Global}
use Rattle.std.specs.String.{string_cmp}
use Rattle.std.specs.BTreeMap.{insert_entry}
use Rattle.liquid_value.proofs.Entries.{Entry, members_view-insert_entry}
use Rattle.liquid_value.specs.meaning.Members.{put_member}
use Rattle.liquid_value.specs.meaning.View.{view, members_view}
use Rattle.liquid_value.specs.declared.value.Value.{Value}
use Rattle.liquid_value.specs.declared.cow.ValueCow.{ValueCow}
use Rattle.liquid_value.specs.declared.cow.ValueCow.TheVariants.{Owned, Borrowed}
use Rattle.liquid_paths.specs.meaning.InPlace.{InPlace}
use Rattle.liquid_paths.specs.meaning.Walk.{Path, walk}
use Rattle.liquid_runtime.specs.meaning.Made.{InPlaceOrMade, OfLoop}
use Rattle.liquid_paths.proofs.Agreement.{find_after-agrees}
use Rattle.liquid_paths.specs.meaning.Walk.{find_after}
use Rattle.std.specs.Result.{result_ok}
use Rattle.std.specs.Prelude.{Ok}
use Rattle.liquid_value.specs.meaning.Tree.{Tree}
use Rattle.liquid_runtime.specs.declared.loop_frame.LoopFrame.{LoopFrame}
use Rattle.liquid_runtime.specs.meaning.Maps.{Names}
use Rattle.liquid_runtime.specs.meaning.LoopNames.{loop_names, forloop, item_tree}

abbrev no_names : Names
no_names = empty

forloop_at : (loop : Tree) (q : List ℕ)
    → get (insert no_names (codes "forloop") loop) q ≡ cond (bytes_eq q (codes "forloop")) (Some loop) None
forloop_at loop q =
    get-insert nat_list_cmp_total no_names (codes "forloop") loop q
    ∙ ap (λ b. cond b (Some loop) (get no_names q)) (is_eq-slice_cmp q (codes "forloop"))
    ∙ ap (cond (bytes_eq q (codes "forloop")) (Some loop)) (get-empty (slice_cmp nat_cmp) q)

-- the item is under the loop's name, and `forloop` under its own
pub looked : (l : LoopFrame) (q : List ℕ) → get (loop_names l) q
    ≡ cond (bytes_eq q (string_bytes l.name)) (Some (item_tree l.item))
    (cond (bytes_eq q (codes "forloop")) (Some (forloop l.counts.place l.counts.size)) None)
looked l q =
    let loop = forloop l.counts.place l.counts.size in
    get-insert nat_list_cmp_total (insert no_names (codes "forloop") loop) (string_bytes l.name) (item_tree l.item) q
    ∙ ap (λ b. cond b (Some (item_tree l.item)) (get (insert no_names (codes "forloop") loop) q)) (is_eq-slice_cmp q (string_bytes l.name))
    ∙ ap (cond (bytes_eq q (string_bytes l.name)) (Some (item_tree l.item))) (forloop_at loop q)

turned : (q name : List ℕ) → bytes_eq q name ≡ bytes_eq name q
turned q name = sym (is_eq-slice_cmp q name) ∙ (eq_by_cmp_equiv nat_list_cmp_total).symm q name ∙ is_eq-slice_cmp name q

some_of : (a b : Bool) (t u : Tree) → is_some (cond a (Some t) (cond b (Some u) None)) ≡ (b || a)
some_of true true t u = refl
some_of true false t u = refl
some_of false true t u = refl
some_of false false t u = refl

-- the names are `forloop` and the loop's name
pub two_names : (l : LoopFrame) (q : List ℕ)
    → is_some (get (loop_names l) q) ≡ (bytes_eq (codes "forloop") q || bytes_eq (string_bytes l.name) q)
two_names l q =
    ap is_some (looked l q)
    ∙ some_of (bytes_eq q (string_bytes l.name)) (bytes_eq q (codes "forloop")) _ _
    ∙ ap (λ b. b || bytes_eq q (string_bytes l.name)) (turned q (codes "forloop"))
    ∙ ap (λ b. bytes_eq (codes "forloop") q || b) (turned q (string_bytes l.name))

-- what is written into an object
pub inserted : (es : List Entry) (k : String Global) (v : Value)
    → members_view (insert_entry string_cmp es k v) ≡ put_member (string_bytes k) (view v) (members_view es)
inserted es k v = members_view-insert_entry es k v

pub in_place_stays : (value : ValueCow) → InPlace value → InPlaceOrMade value
in_place_stays (Borrowed value) is = tt
in_place_stays (Owned value) is = inl is

-- what a path from an object `forloop` leads to
pub of_loop : (place size : ℕ) (path : Path) (value : Value) (t : Tree) → walk (forloop place size) path ≡ Some t → view value ≡ t
    → InPlaceOrMade (Owned value)
of_loop place size path value t leads is = inr (place, size, path, leads ∙ ap Some (sym is))

pub ruleset made = (in_place_stays, of_loop)

-- a walk that refuses nothing leads to its value
pub leads_from : (place size : ℕ) (front path : Path) (t : Tree) → Ok t ≡ find_after front (forloop place size) path → OfLoop t
leads_from place size front path t is =
    (place, size, path, sym (find_after-agrees front (forloop place size) path) ∙ ap result_ok (sym is))
