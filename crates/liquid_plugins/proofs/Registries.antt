-- What the map of a registry gives, and how a change to its entries changes it.
use Rattle.std.proofs.Common.{◌≡◌, ℕ, Bool, true, false, cond, ◌&&◌, List, [], ◌∷◌, Some, map, refl, ap, sym, ◌∙◌, subst}
use Rattle.std.specs.Prelude.{T, String, string_bytes}
use Rattle.std.specs.BTreeMap.{BTreeMap, IsEmpty, IsUnchanged, IsOrdered, IsClone, get_by_text, Updates}
use Rattle.std.specs.Cmp.{eq_by_cmp_equiv}
use Rattle.std.specs.Cmp.Lexicographic.{slice_cmp, nat_list_cmp_total}
use Rattle.std.specs.FinMap.{
  get,
  insert,
  get-insert,
  empty,
  entries,
  keys,
  values,
  from_entries,
  from_sorted,
  get-from_entries,
  get-from_sorted,
  entries-from_sorted,
}
use Rattle.std.specs.FinMap.Entries.{find, is_sorted, below_all}
use Rattle.std.specs.List.{AllByRecursion, AllZip}
use Rattle.std.specs.List.Sorted.{IsStrictlySortedBy}
use Rattle.std.specs.Map.{keys_of, values_of, lookup as lookup_entry}
use Rattle.std.specs.Ordering.{nat_cmp, is_eq, is_lt, eq_by_cmp}
use Rattle.std.specs.Str.{bytes_eq}
use Rattle.std.specs.String.{string_cmp}
use Rattle.std.specs.declared.alloc.Global.{Global}
use Rattle.std.specs.declared.cmp.Ordering.TheVariants.{Less}
use Rattle.std.proofs.lemmas.Map.Text.{is_eq-slice_cmp, btree_map_updates_text}
use Rattle.liquid_runtime.proofs.MapLaws.{same_names}
use Rattle.liquid_plugins.specs.meaning.Registry.{by_name, IsCopied, IsCopy}

both : (a b : Bool) → T a → T b → T (a && b)
both true b p q = q
both false b p q = p

module _ {X : Type 0} where
  -- an entry, under the bytes of its name
  abbrev named : String Global × X → List ℕ × X
  named e = (string_bytes e.0, e.1)

  find-named : (q : List ℕ) (es : List (String Global × X)) → find (slice_cmp nat_cmp) q (map named es) ≡ lookup_entry
      (λ k. is_eq (slice_cmp nat_cmp q (string_bytes k))) es
  find-named q [] = refl
  find-named q (e ∷ es) = ap (cond (is_eq (slice_cmp nat_cmp q (string_bytes e.0))) (Some e.1)) (find-named q es)

  -- a registry gives what its entries give
  pub get-by_name : (m : BTreeMap (String Global) X) (q : List ℕ) → get (by_name m) q ≡ get_by_text m q
  unfolding by_name
  get-by_name m q = get-from_entries nat_list_cmp_total (map named m.entries) q ∙ find-named q m.entries

  pub by_name-empty : (m : BTreeMap (String Global) X) → IsEmpty m → by_name m ≡ empty
  unfolding by_name
  by_name-empty m none = ap (λ es. from_entries (map named es)) none

  pub by_name-unchanged : (old new : BTreeMap (String Global) X) → IsUnchanged old new → by_name new ≡ by_name old
  unfolding by_name
  by_name-unchanged old new e = ap (λ es. from_entries (map named es)) e

  -- giving a name a plug-in in the entries is inserting it
  pub by_name-insert : (old new : BTreeMap (String Global) X) (k : String Global) (x : X) → Updates string_cmp old new k (Some x)
      → by_name new ≡ insert (by_name old) (string_bytes k) x
  by_name-insert old new k x updates = same_names _ _ (λ q.
      let same : bytes_eq (string_bytes k) q ≡ eq_by_cmp (slice_cmp nat_cmp) q (string_bytes k) =
      sym (is_eq-slice_cmp (string_bytes k) q) ∙ (eq_by_cmp_equiv nat_list_cmp_total).symm (string_bytes k) q in
      get-by_name new q
      ∙ btree_map_updates_text (string_bytes k) old new (Some x) updates q
      ∙ ap (cond (bytes_eq (string_bytes k) q) (Some x)) (sym (get-by_name old q))
      ∙ ap (λ b. cond b (Some x) (get (by_name old) q)) same
      ∙ sym (get-insert nat_list_cmp_total (by_name old) (string_bytes k) x q))

  below-named : (k : String Global) (es : List (String Global × X)) → AllByRecursion (λ y. string_cmp k y ≡ Less) (keys_of es)
      → T (below_all (slice_cmp nat_cmp) (string_bytes k) (map named es))
  below-named k [] above = tt
  below-named k (e ∷ es) above = both _ _ (subst (λ r. T (is_lt r)) (sym above.0) tt) (below-named k es above.1)

  sorted-named : (es : List (String Global × X)) → IsStrictlySortedBy string_cmp (keys_of es)
      → T (is_sorted (slice_cmp nat_cmp) (map named es))
  unfolding IsStrictlySortedBy
  sorted-named [] ordered = tt
  sorted-named (e ∷ es) ordered = both _ _ (below-named e.0 es ordered.0) (sorted-named es ordered.1)

  -- the entries of a registry, in the order of the names
  pub entries-by_name : (m : BTreeMap (String Global) X) → IsOrdered string_cmp m → entries (by_name m) ≡ map named m.entries
  unfolding by_name
  entries-by_name m ordered =
      let sorted = sorted-named m.entries ordered in
      ap entries (same_names (from_entries (map named m.entries)) (from_sorted (map named m.entries))
      (λ q. get-from_entries nat_list_cmp_total (map named m.entries) q ∙ sym (get-from_sorted _ (map named m.entries) q sorted)))
      ∙ entries-from_sorted _ (map named m.entries) sorted

  names-named : (es : List (String Global × X)) → map (λ s. string_bytes s) (keys_of es) ≡ map (λ e. e.0) (map named es)
  names-named [] = refl
  names-named (e ∷ es) = ap (λ ks. string_bytes e.0 ∷ ks) (names-named es)

  values-named : (es : List (String Global × X)) → values_of es ≡ map (λ e. e.1) (map named es)
  values-named [] = refl
  values-named (e ∷ es) = ap (λ xs. e.1 ∷ xs) (values-named es)

  pub names-by_name : (m : BTreeMap (String Global) X) → IsOrdered string_cmp m
      → map (λ s. string_bytes s) (keys_of m.entries) ≡ keys (by_name m)
  names-by_name m ordered = names-named m.entries ∙ ap (map (λ e. e.0)) (sym (entries-by_name m ordered))

  pub values-by_name : (m : BTreeMap (String Global) X) → IsOrdered string_cmp m → values_of m.entries ≡ values (by_name m)
  values-by_name m ordered = values-named m.entries ∙ ap (map (λ e. e.1)) (sym (entries-by_name m ordered))

  lookup-copied : (C : X → X → Type 0) (q : List ℕ) (es fs : List (String Global × X))
      → AllZip (λ e f. (string_bytes f.0 ≡ string_bytes e.0) × C e.1 f.1) es fs
      → IsCopied C (lookup_entry (λ k. is_eq (slice_cmp nat_cmp q (string_bytes k))) es)
      (lookup_entry (λ k. is_eq (slice_cmp nat_cmp q (string_bytes k))) fs)
  lookup-copied C q [] [] copied = refl
  lookup-copied C q [] (f ∷ fs) copied = absurd copied
  lookup-copied C q (e ∷ es) [] copied = absurd copied
  lookup-copied C q (e ∷ es) (f ∷ fs) copied =
      let same : is_eq (slice_cmp nat_cmp q (string_bytes f.0)) ≡ is_eq (slice_cmp nat_cmp q (string_bytes e.0)) =
      ap (λ bs. is_eq (slice_cmp nat_cmp q bs)) copied.0.0 in
      let rest = lookup-copied C q es fs copied.1 in
      subst (λ b. IsCopied C (lookup_entry (λ k. is_eq (slice_cmp nat_cmp q (string_bytes k))) (e ∷ es))
      (cond b (Some f.1) (lookup_entry (λ k. is_eq (slice_cmp nat_cmp q (string_bytes k))) fs))) (sym same)
      (elim (is_eq (slice_cmp nat_cmp q (string_bytes e.0))) as (λ b. IsCopied C
      (cond b (Some e.1) (lookup_entry (λ k. is_eq (slice_cmp nat_cmp q (string_bytes k))) es))
      (cond b (Some f.1) (lookup_entry (λ k. is_eq (slice_cmp nat_cmp q (string_bytes k))) fs))) [
        | true ↦ (f.1, refl, copied.0.1)
        | false ↦ rest
      ])

  -- a copy of the entries is a copy of the registry
  pub by_name-copy : (C : X → X → Type 0) (m n : BTreeMap (String Global) X) → IsClone (λ s t. string_bytes t ≡ string_bytes s) C m n
      → IsCopy C (by_name m) (by_name n)
  by_name-copy C m n copied q =
      subst (λ r. IsCopied C r (get (by_name n) q)) (sym (get-by_name m q))
      (subst (IsCopied C (get_by_text m q)) (sym (get-by_name n q)) (lookup-copied C q m.entries n.entries copied))

pub ruleset registries = (get-by_name, by_name-empty, by_name-unchanged, by_name-insert, names-by_name, values-by_name, by_name-copy)
