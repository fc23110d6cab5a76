-- What a store of one partial finds.
use Rattle.std.proofs.Common.{◌≡◌, ℕ, Bool, true, false, cond, List, [], ◌∷◌, ◌++◌, Option, Some}
use Rattle.std.proofs.Common.{None, is_some, Result, Ok, Err, map, refl, sym, ap, ◌∙◌, subst}
use Rattle.std.specs.Prelude.{option_and_then}
use Rattle.std.specs.Borrow.{Bor}
use Rattle.std.specs.Cmp.Lexicographic.{slice_cmp, nat_list_cmp_total}
use Rattle.std.specs.FinMap.{get, insert, empty, keys, entries, get-empty, get-insert, entries-insert, len-empty, len-entries}
use Rattle.std.specs.FinMap.Entries.{put}
use Rattle.std.specs.Ordering.{nat_cmp, eq_by_cmp}
use Rattle.std.specs.Str.{bytes_eq}
use Rattle.std.proofs.lemmas.Map.Text.{is_eq-slice_cmp}
use Rattle.liquid_error.specs.meaning.Refusal.{Refusal}
use Rattle.liquid_template.specs.meaning.Partials.{partial_in, tree_in, read_tree, unknown_partial}
use Rattle.std.proofs.lemmas.List.{nil_from_length}

module _ {X : Type 0} (name : List ℕ) (x : X) where
  pub get_one : (q : List ℕ) → get (insert (empty {R = slice_cmp nat_cmp}) name x) q ≡ cond (bytes_eq q name) (Some x) None
  get_one q =
      get-insert nat_list_cmp_total empty name x q
      ∙ ap (cond (eq_by_cmp (slice_cmp nat_cmp) q name) (Some x)) (get-empty (slice_cmp nat_cmp) q)
      ∙ ap (λ b. cond b (Some x) None) (is_eq-slice_cmp q name)

  pub keys_one : keys (insert (empty {R = slice_cmp nat_cmp}) name x) ≡ name ∷ []
  keys_one = ap (map (λ e. e.0)) (entries-insert nat_list_cmp_total empty name x
      ∙ ap (put (slice_cmp nat_cmp) name x) (nil_from_length (entries (empty {X = X} {R = slice_cmp nat_cmp}))
      (sym (len-entries empty) ∙ len-empty (slice_cmp nat_cmp) X)))

is_some_cond : {X : Type 0} (b : Bool) (x : X) → is_some (cond b (Some x) None) ≡ b
is_some_cond true x = refl
is_some_cond false x = refl

module _ {X : Type 0} (name : List ℕ) (x : X) (q : List ℕ) where
  pub contains_one : is_some (get (insert (empty {R = slice_cmp nat_cmp}) name x) q) ≡ bytes_eq q name
  contains_one = ap is_some (get_one name x q) ∙ is_some_cond (bytes_eq q name) x

  get_own : bytes_eq q name ≡ true → get (insert (empty {R = slice_cmp nat_cmp}) name x) q ≡ Some x
  get_own e = get_one name x q ∙ ap (λ b. cond b (Some x) None) e

  get_other : bytes_eq q name ≡ false → get (insert (empty {R = slice_cmp nat_cmp}) name x) q ≡ None
  get_other e = get_one name x q ∙ ap (λ b. cond b (Some x) None) e

module _ {A : Type 0} (name : List ℕ) (x : A) (q : List ℕ) where
  pub tree_own : bytes_eq q name ≡ true → tree_in (insert empty name (Ok x)) q ≡ Some x
  tree_own e = ap (option_and_then read_tree) (get_own {X = Result A Refusal} name (Ok x) q e)

  pub tree_other : bytes_eq q name ≡ false → tree_in (insert empty name (Ok x)) q ≡ None
  tree_other e = ap (option_and_then read_tree) (get_other {X = Result A Refusal} name (Ok x) q e)

  pub partial_own : bytes_eq q name ≡ true → partial_in (insert empty name (Ok x)) q ≡ Ok x
  partial_own e =
      ap (λ found. elim found [
        | None ↦ Err (unknown_partial q (keys {X = Result A Refusal}
            (insert (empty {R = slice_cmp nat_cmp}) name (Ok x))))
        | Some reading ↦ reading
      ])
      (get_own {X = Result A Refusal} name (Ok x) q e)

  pub partial_other : bytes_eq q name ≡ false → partial_in (insert empty name (Ok x)) q ≡ Err (unknown_partial q (name ∷ []))
  partial_other e =
      ap (λ found. elim found [
        | None ↦ Err (unknown_partial q (keys {X = Result A Refusal}
            (insert (empty {R = slice_cmp nat_cmp}) name (Ok x))))
        | Some reading ↦ reading
      ])
      (get_other {X = Result A Refusal} name (Ok x) q e)
      ∙ ap (λ names. Err (unknown_partial q names)) (keys_one {X = Result A Refusal} name (Ok x))

-- one name that is pushed to none
pub names_pushed : (old new : List (Bor (List ℕ))) (r : Bor (List ℕ)) → old ≡ [] → new ≡ old ++ r ∷ [] → map (λ name. name.now) new ≡ r.now
    ∷ []
names_pushed old new r e k = ap (map (λ name. name.now)) (k ∙ ap (λ items. items ++ r ∷ []) e)
