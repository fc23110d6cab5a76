-- What is found if there are no partials, and the names that a refusal lists.
use Rattle.std.proofs.Common.{◌≡◌, ℕ, List, [], ◌∷◌, ◌++◌, map, None, Some, Result, Err, refl, sym, ap, ◌∙◌}
use Rattle.std.specs.Prelude.{codes, option_and_then}
use Rattle.std.specs.Borrow.{Bor}
use Rattle.std.specs.List.{join_by, flat_map}
use Rattle.std.specs.Ordering.{nat_cmp}
use Rattle.std.specs.Cmp.Lexicographic.{slice_cmp}
use Rattle.std.specs.FinMap.{empty, get, keys, entries, get-empty, len-empty, len-entries}
use Rattle.liquid_error.specs.meaning.Refusal.{Refusal}
use Rattle.liquid_paths.specs.meaning.Walk.{listed}
use Rattle.liquid_runtime.specs.meaning.Maps.{NameMap}
use Rattle.liquid_template.specs.meaning.Partials.{partial_in, tree_in, read_tree, unknown_partial}
use Rattle.std.proofs.lemmas.List.{nil_from_length}

pub no_name : {X : Type 0} (name : List ℕ) → get (empty {X = X} {R = slice_cmp nat_cmp}) name ≡ None
no_name name = get-empty (slice_cmp nat_cmp) name

pub no_names : (X : Type 0) → keys (empty {X = X} {R = slice_cmp nat_cmp}) ≡ []
no_names X =
    ap (map (λ e. e.0)) (nil_from_length (entries (empty {X = X} {R = slice_cmp nat_cmp}))
    (sym (len-entries empty) ∙ len-empty (slice_cmp nat_cmp) X))

module _ {A : Type 0} where
  abbrev none : NameMap (Result A Refusal)
  none = empty

  pub no_tree : (name : List ℕ) → tree_in none name ≡ None
  no_tree name = ap (option_and_then read_tree) (no_name name)

  pub no_partial : (name : List ℕ) → partial_in none name ≡ Err (unknown_partial name [])
  no_partial name =
      ap (λ found. elim found [ None ↦ Err (unknown_partial name (keys none)) | Some reading ↦ reading ])
      (no_name {X = Result A Refusal} name)
      ∙ ap (λ names. Err (unknown_partial name names)) (no_names (Result A Refusal))

separated : (sep : List ℕ) (names : List (Bor (List ℕ))) → flat_map (λ name. sep ++ name.now) names ≡ flat_map (λ text. sep ++ text)
    (map (λ name. name.now) names)
separated sep [] = refl
separated sep (name ∷ names) = ap (λ rest. (sep ++ name.now) ++ rest) (separated sep names)

-- names that are joined are listed
pub joined_names : (names : List (Bor (List ℕ))) → join_by (λ name. name.now) (codes ", ") names ≡ listed (map (λ name. name.now) names)
joined_names [] = refl
joined_names (name ∷ names) = ap (λ rest. name.now ++ rest) (separated (codes ", ") names)
