-- Maps whose values are made from those of another one, and the texts that a map of the program holds.
use Rattle.std.proofs.Common.{
  ◌≡◌,
  ℕ,
  Bool,
  true,
  false,
  cond,
  ◌&&◌,
  List,
  [],
  ◌∷◌,
  Option,
  Some,
  None,
  is_some,
  map,
  refl,
  ap,
  sym,
  ◌∙◌,
  subst,
}
use Rattle.std.specs.Prelude.{T, String, string_bytes, option_map, Result}
use Rattle.std.specs.BTreeMap.{BTreeMap, IsEmpty, IsUnchanged, IsOrdered, IsClone, get_by_text, Updates}
use Rattle.std.specs.Cmp.Lexicographic.{slice_cmp, nat_list_cmp_total}
use Rattle.std.specs.FinMap.{
  get,
  get-entries,
  get-empty,
  insert,
  get-insert,
  empty,
  entries,
  entries_sorted,
  keys,
  from_entries,
  from_sorted,
  get-from_entries,
  get-from_sorted,
  entries-from_sorted,
}
use Rattle.std.specs.FinMap.Entries.{find, is_sorted, below_all}
use Rattle.std.specs.Map.{keys_of}
use Rattle.std.specs.Ordering.{nat_cmp, is_lt, eq_by_cmp}
use Rattle.std.specs.String.{string_cmp}
use Rattle.std.specs.declared.alloc.Global.{Global}
use Rattle.liquid_error.specs.declared.error.Error.{Error}
use Rattle.liquid_runtime.specs.meaning.Maps.{NameMap}
use Rattle.liquid_runtime.proofs.MapLaws.{same_names}
use Rattle.liquid_plugins.specs.meaning.Registry.{by_name, IsCopied}
use Rattle.liquid_plugins.proofs.Registries.{get-by_name, by_name-empty, by_name-unchanged, by_name-insert, names-by_name, by_name-copy}
use Rattle.liquid_plugins.specs.meaning.Nodes.{Nodes}
use Rattle.liquid_partials.specs.meaning.Each.{each}
use Rattle.liquid_partials.specs.meaning.Kept.{kept_as, all_kept}
use Rattle.liquid_partials.specs.meaning.Sources.{texts_in}

module _ {X Y : Type 0} (f : X → Y) where
  abbrev made : List ℕ × X → List ℕ × Y
  made e = (e.0, f e.1)

  made_or : (b : Bool) (x : X) (o : Option X) (p : Option Y) → p ≡ option_map f o → cond b (Some (f x)) p ≡ option_map f (cond b (Some x) o)
  made_or true x o p e = refl
  made_or false x o p e = e

  find-made : (q : List ℕ) (es : List (List ℕ × X)) → find (slice_cmp nat_cmp) q (map made es) ≡ option_map f
      (find (slice_cmp nat_cmp) q es)
  find-made q [] = refl
  find-made q (e ∷ es) = made_or (eq_by_cmp (slice_cmp nat_cmp) q e.0) e.1 _ _ (find-made q es)

  -- a name has what its value gives
  pub get-each : (m : NameMap X) (q : List ℕ) → get (each f m) q ≡ option_map f (get m q)
  unfolding each
  get-each m q =
      get-from_entries nat_list_cmp_total (map made (entries m)) q ∙ find-made q (entries m) ∙ ap (option_map f) (sym (get-entries m q))

  below-made : (k : List ℕ) (es : List (List ℕ × X)) → below_all (slice_cmp nat_cmp) k (map made es) ≡ below_all (slice_cmp nat_cmp) k es
  below-made k [] = refl
  below-made k (e ∷ es) = ap (λ b. is_lt (slice_cmp nat_cmp k e.0) && b) (below-made k es)

  sorted-made : (es : List (List ℕ × X)) → is_sorted (slice_cmp nat_cmp) (map made es) ≡ is_sorted (slice_cmp nat_cmp) es
  sorted-made [] = refl
  sorted-made (e ∷ es) =
      ap (λ b. b && is_sorted (slice_cmp nat_cmp) (map made es)) (below-made e.0 es)
      ∙ ap (λ b. below_all (slice_cmp nat_cmp) e.0 es && b) (sorted-made es)

  keys-made : (es : List (List ℕ × X)) → map (λ e. e.0) (map made es) ≡ map (λ e. e.0) es
  keys-made [] = refl
  keys-made (e ∷ es) = ap (λ ks. e.0 ∷ ks) (keys-made es)

  entries-each : (m : NameMap X) → entries (each f m) ≡ map made (entries m)
  unfolding each
  entries-each m =
      let es = map made (entries m) in
      let sorted = subst T (sym (sorted-made (entries m))) (entries_sorted m) in
      ap entries (same_names (from_entries es) (from_sorted es) (λ q. get-from_entries nat_list_cmp_total es q
      ∙ sym (get-from_sorted (slice_cmp nat_cmp) es q sorted)))
      ∙ entries-from_sorted (slice_cmp nat_cmp) es sorted

  -- the names stay
  pub keys-each : (m : NameMap X) → keys (each f m) ≡ keys m
  keys-each m = ap (map (λ e. e.0)) (entries-each m) ∙ keys-made (entries m)

  is_some-made : (o : Option X) → is_some (option_map f o) ≡ is_some o
  is_some-made None = refl
  is_some-made (Some x) = refl

  pub contains-each : (m : NameMap X) (q : List ℕ) → is_some (get (each f m) q) ≡ is_some (get m q)
  contains-each m q = ap is_some (get-each m q) ∙ is_some-made (get m q)

  pub empty-each : each f empty ≡ empty
  empty-each =
      same_names _ _ (λ q. get-each empty q ∙ ap (option_map f) (get-empty (slice_cmp nat_cmp) q) ∙ sym (get-empty (slice_cmp nat_cmp) q))

  pub insert-each : (m : NameMap X) (k : List ℕ) (x : X) → each f (insert m k x) ≡ insert (each f m) k (f x)
  insert-each m k x = same_names _ _ (λ q.
      get-each (insert m k x) q
      ∙ ap (option_map f) (get-insert nat_list_cmp_total m k x q)
      ∙ sym (made_or (eq_by_cmp (slice_cmp nat_cmp) q k) x (get m q) (get (each f m) q) (get-each m q))
      ∙ sym (get-insert nat_list_cmp_total (each f m) k (f x) q))

-- the same for the entries of a map of the program
module _ {X Y : Type 0} (f : X → Y) where
  pub get-named : (m : BTreeMap (String Global) X) (q : List ℕ) → get (each f (by_name m)) q ≡ option_map f (get_by_text m q)
  get-named m q = get-each f (by_name m) q ∙ ap (option_map f) (get-by_name m q)

  pub contains-named : (m : BTreeMap (String Global) X) (q : List ℕ) → is_some (get (each f (by_name m)) q) ≡ is_some (get_by_text m q)
  contains-named m q = contains-each f (by_name m) q ∙ ap is_some (get-by_name m q)

  pub empty-named : (m : BTreeMap (String Global) X) → IsEmpty m → each f (by_name m) ≡ empty
  empty-named m none = ap (each f) (by_name-empty m none) ∙ empty-each f

  pub unchanged-named : (old new : BTreeMap (String Global) X) → IsUnchanged old new → each f (by_name new) ≡ each f (by_name old)
  unchanged-named old new e = ap (each f) (by_name-unchanged old new e)

  pub insert-named : (old new : BTreeMap (String Global) X) (k : String Global) (x : X) → Updates string_cmp old new k (Some x)
      → each f (by_name new) ≡ insert (each f (by_name old)) (string_bytes k) (f x)
  insert-named old new k x updates = ap (each f) (by_name-insert old new k x updates) ∙ insert-each f (by_name old) (string_bytes k) x

  pub names-named : (m : BTreeMap (String Global) X) → IsOrdered string_cmp m
      → map (λ s. string_bytes s) (keys_of m.entries) ≡ keys (each f (by_name m))
  names-named m ordered = names-by_name m ordered ∙ sym (keys-each f (by_name m))

same_copied : (o p : Option (String Global)) → IsCopied (λ s t. string_bytes t ≡ string_bytes s) o p
    → option_map string_bytes p ≡ option_map string_bytes o
same_copied None p e = ap (option_map string_bytes) e
same_copied (Some s) p e = ap (option_map string_bytes) e.1 ∙ ap (λ b. Some b) e.2

pub texts-copy : (m n : BTreeMap (String Global) (String Global))
    → IsClone (λ s t. string_bytes t ≡ string_bytes s) (λ s t. string_bytes t ≡ string_bytes s) m n → texts_in n ≡ texts_in m
texts-copy m n copied = same_names _ _ (λ q.
    get-each string_bytes (by_name n) q
    ∙ same_copied (get (by_name m) q) (get (by_name n) q) (by_name-copy (λ s t. string_bytes t ≡ string_bytes s) m n copied q)
    ∙ sym (get-each string_bytes (by_name m) q))

pub texts-insert : (old new : BTreeMap (String Global) (String Global)) (k x : String Global) → Updates string_cmp old new k (Some x)
    → texts_in new ≡ insert (texts_in old) (string_bytes k) (string_bytes x)
texts-insert old new k x updates = insert-named string_bytes old new k x updates

pub ruleset sources = (get-named, contains-named, empty-named, unchanged-named, texts-insert, names-named, texts-copy)

pub insert_kept : {A F T B : Type 0} (of : A → Nodes F T B) (old new : BTreeMap (String Global) (Result A Error)) (k : String Global)
    (x : Result A Error)
    → Updates string_cmp old new k (Some x) → all_kept of new ≡ insert (all_kept of old) (string_bytes k) (kept_as of x)
insert_kept of old new k x updates = insert-named (kept_as of) old new k x updates

pub unchanged_kept : {A F T B : Type 0} (of : A → Nodes F T B) (old new : BTreeMap (String Global) (Result A Error)) → IsUnchanged old new
    → all_kept of new ≡ all_kept of old
unchanged_kept of old new e = unchanged-named (kept_as of) old new e
