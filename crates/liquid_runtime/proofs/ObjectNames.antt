-- What the names of an object give, and how a change to the object changes them.
use Rattle.std.proofs.Common.{◌≡◌, ℕ, Bool, true, false, cond, List, [], ◌∷◌, Option, Some, map, refl, ap, sym, ◌∙◌}
use Rattle.std.specs.Prelude.{String, string_bytes}
use Rattle.std.specs.Option.{option_map}
use Rattle.std.specs.Ordering.{nat_cmp, is_eq, eq_by_cmp}
use Rattle.std.specs.Cmp.Lexicographic.{slice_cmp, nat_list_cmp_total}
use Rattle.std.specs.BTreeMap.{BTreeMap, IsEmpty, get_by_text, Updates}
use Rattle.std.specs.Cmp.{eq_by_cmp_equiv}
use Rattle.std.specs.Str.{bytes_eq}
use Rattle.std.specs.String.{string_cmp}
use Rattle.std.proofs.lemmas.Map.Text.{is_eq-slice_cmp, btree_map_updates_text}
use Rattle.std.specs.Map.{lookup as lookup_entry}
use Rattle.std.specs.FinMap.{get, insert, get-insert, empty, from_entries, get-from_entries}
use Rattle.std.specs.FinMap.Entries.{find}
use Rattle.std.specs.declared.alloc.Global.{Global}
use Rattle.liquid_value.specs.meaning.View.{view}
use Rattle.liquid_value.specs.declared.value.Value.{Value}
use Rattle.liquid_runtime.specs.meaning.Maps.{names_of}
use Rattle.liquid_runtime.proofs.MapLaws.{same_names}

option_map-cond : {X Y : Type 0} (f : X → Y) (b : Bool) (x : X) (rest : Option X)
    → cond b (Some (f x)) (option_map f rest) ≡ option_map f (cond b (Some x) rest)
option_map-cond f true x rest = refl
option_map-cond f false x rest = refl

find_as_lookup : (q : List ℕ) (es : List (String Global × Value))
    → find (slice_cmp nat_cmp) q (map (λ e. (string_bytes e.0, view e.1)) es) ≡ option_map view
    (lookup_entry (λ k. is_eq (slice_cmp nat_cmp q (string_bytes k))) es)
find_as_lookup q [] = refl
find_as_lookup q (e ∷ es) =
    ap (cond (is_eq (slice_cmp nat_cmp q (string_bytes e.0))) (Some (view e.1))) (find_as_lookup q es)
    ∙ option_map-cond view (is_eq (slice_cmp nat_cmp q (string_bytes e.0))) e.1 _

-- an object's names give what the object gives
pub get-names_of : (object : BTreeMap (String Global) Value) (q : List ℕ) → get (names_of object) q ≡ option_map view (get_by_text object q)
unfolding names_of
get-names_of object q =
    get-from_entries nat_list_cmp_total (map (λ e. (string_bytes e.0, view e.1)) object.entries) q ∙ find_as_lookup q object.entries

-- an object without entries has no names
pub names_of-empty : (object : BTreeMap (String Global) Value) → IsEmpty object → names_of object ≡ empty
unfolding names_of
names_of-empty object none = ap (λ es. from_entries (map (λ e. (string_bytes e.0, view e.1)) es)) none

-- giving a name a value in the object is giving it that value in its names
pub names_of-insert : (old new : BTreeMap (String Global) Value) (k : String Global) (x : Value) → Updates string_cmp old new k (Some x)
    → names_of new ≡ insert (names_of old) (string_bytes k) (view x)
names_of-insert old new k x updates = same_names _ _ (λ q.
    let same : bytes_eq (string_bytes k) q ≡ eq_by_cmp (slice_cmp nat_cmp) q (string_bytes k) =
    sym (is_eq-slice_cmp (string_bytes k) q) ∙ (eq_by_cmp_equiv nat_list_cmp_total).symm (string_bytes k) q in
    get-names_of new q
    ∙ ap (option_map view) (btree_map_updates_text (string_bytes k) old new (Some x) updates q)
    ∙ sym (option_map-cond view (bytes_eq (string_bytes k) q) x (get_by_text old q))
    ∙ ap (cond (bytes_eq (string_bytes k) q) (Some (view x))) (sym (get-names_of old q))
    ∙ ap (λ b. cond b (Some (view x)) (get (names_of old) q)) same
    ∙ sym (get-insert nat_list_cmp_total (names_of old) (string_bytes k) (view x) q))

-- how the names of an object change with it
pub ruleset changed_objects = (names_of-empty, names_of-insert)
