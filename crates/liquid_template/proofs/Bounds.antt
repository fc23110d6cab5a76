-- A partial has at most as many plug-in nodes as all partials together.
use Rattle.std.proofs.Common.{
  ◌≡◌,
  ℕ,
  ◌+◌,
  ◌≤◌,
  Bool,
  true,
  false,
  cond,
  List,
  [],
  ◌∷◌,
  map,
  Option,
  None,
  Some,
  Result,
  Ok,
  Err,
  refl,
  sym,
  ap,
  ◌∙◌,
  subst,
  arith,
}
use Rattle.std.proofs.lemmas.Option.{same_Some, none-some}
use Rattle.std.specs.Prelude.{IfOk, option_map}
use Rattle.std.specs.Ordering.{nat_cmp, eq_by_cmp}
use Rattle.std.specs.Cmp.Lexicographic.{slice_cmp}
use Rattle.std.specs.FinMap.{get, get-entries, entries, values, keys}
use Rattle.std.specs.FinMap.Entries.{find}
use Rattle.liquid_error.specs.declared.error.Error.{Error}
use Rattle.liquid_error.specs.meaning.Refusal.{Refusal}
use Rattle.liquid_error.specs.meaning.Told.{Gives}
use Rattle.liquid_plugins.specs.meaning.Nodes.{Nodes}
use Rattle.liquid_plugins.specs.meaning.Size.{size_nodes}
use Rattle.liquid_template.specs.meaning.Partials.{Found, partial_in, unknown_partial}
use Rattle.liquid_template.specs.steps.Sought.{store_answer}
use Rattle.liquid_template.specs.steps.Bound.{size_read, size_all, partials_size}

module _ {F T B : Type 0} where
  abbrev IsErr : Result (Nodes F T B) Refusal → Type 0
  IsErr (Ok _) = ⊥
  IsErr (Err _) = Unit {0}

  entry_small : (es : List (List ℕ × Result (Nodes F T B) Refusal)) (name : List ℕ) (reading : Result (Nodes F T B) Refusal)
      → find (slice_cmp nat_cmp) name es ≡ Some reading → size_read reading ≤ size_all (map (λ e. e.1) es)
  entry_small [] name reading h = absurd (none-some reading h)
  entry_small (e ∷ es) name reading h = go (eq_by_cmp (slice_cmp nat_cmp) name e.0) (entry_small es name reading) h
    where
      go : (b : Bool) → (find (slice_cmp nat_cmp) name es ≡ Some reading → size_read reading ≤ size_all (map (λ e. e.1) es))
          → cond b (Some e.1) (find (slice_cmp nat_cmp) name es) ≡ Some reading
          → size_read reading ≤ size_read e.1 + size_all (map (λ e. e.1) es)
      go true later k = let s : size_read e.1 ≡ size_read reading = ap size_read (same_Some e.1 reading k) in omega (arith, s)
      go false later k = omega (arith, later k)

  found_size : (finds : Found F T B) (name : List ℕ) (ns : Nodes F T B) → partial_in finds name ≡ Ok ns
      → size_nodes ns ≤ size_all (values finds)
  found_size finds name ns h = go (get finds name) refl h
    where
      go : (found : Option (Result (Nodes F T B) Refusal)) → get finds name ≡ found
          → ◌≡◌ {A = Result (Nodes F T B) Refusal} (elim found [ None ↦ Err (unknown_partial name (keys finds)) | Some reading ↦ reading ])
          (Ok ns) → size_nodes ns ≤ size_all (values finds)
      go None g k = absurd (subst IsErr k tt)
      go (Some reading) g k =
          let s : size_read reading ≡ size_nodes ns = ap size_read k in
          omega (arith, s, entry_small (entries finds) name reading (sym (get-entries finds name) ∙ g))

  answer_size : (finds : Option (Found F T B)) (name : List ℕ) (ns : Nodes F T B) → store_answer (option_map partial_in finds) name ≡ Ok ns
      → size_nodes ns ≤ partials_size finds
  answer_size None name ns h = absurd (subst IsErr h tt)
  answer_size (Some finds) name ns h = found_size finds name ns h

  -- what a store returns has a size within that of all that it finds
  pub small_answer : {A : Type 0} (of : A → Nodes F T B) (result : Result A Error) (finds : Option (Found F T B)) (name : List ℕ)
      → Gives of result (store_answer (option_map partial_in finds) name) → IfOk result (λ x. size_nodes (of x) ≤ partials_size finds)
  small_answer of (Ok x) finds name h = answer_size finds name (of x) h
  small_answer of (Err e) finds name h = tt
