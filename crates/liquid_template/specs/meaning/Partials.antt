-- The partial of a name.
use Rattle.std.specs.Prelude.{ℕ, zero, suc, List, codes, Option, None, Some, option_and_then, option_map, Result, Ok, Err}
use Rattle.std.specs.FinMap.{get, keys}
use Rattle.liquid_error.specs.meaning.Refusal.{Refusal, plain, with_context}
use Rattle.liquid_runtime.specs.meaning.Maps.{NameMap}
use Rattle.liquid_paths.specs.meaning.Walk.{listed}
use Rattle.liquid_plugins.specs.meaning.Nodes.{Nodes}
use Rattle.liquid_template.specs.meaning.Run.{Action}
use Rattle.liquid_template.specs.meaning.Actions.{refuses}
use Rattle.liquid_template.specs.meaning.Nodes.{Setting, run_nodes}

-- the refusal for partials that are nested too deep
abbrev pub too_deep : Refusal
too_deep = plain (codes "Partials nest too deep")

-- the refusal of a name if there is no store
abbrev pub no_store : List ℕ → Refusal
no_store name = with_context (codes "name") name (plain (codes "Partial does not exist"))

-- the refusal of a name that no source has
abbrev pub unknown_partial : List ℕ → List (List ℕ) → Refusal
unknown_partial name names =
    with_context (codes "available partials") (listed names) (with_context (codes "requested partial") name
    (plain (codes "Unknown partial-template")))

-- the tree that a text is parsed as, and none for a fault
abbrev pub read_tree : {A : Type 0} → Result A Refusal → Option A
read_tree (Ok tree) = Some tree
read_tree (Err refusal) = None

-- what a store finds: under each name the result of parsing its text, a tree or a fault
abbrev pub Found : (F T B : Type 0) → Type 0
Found F T B = NameMap (Result (Nodes F T B) Refusal)

-- what a store finds, if there is one
abbrev pub partials_of : {A F T B : Type 0} → (A → Found F T B) → Option A → Option (Found F T B)
partials_of finds store = option_map finds store

-- what a name gives: what is found under it, or the refusal of an unknown name
abbrev pub partial_in : {A : Type 0} → NameMap (Result A Refusal) → List ℕ → Result A Refusal
partial_in finds name = elim (get finds name) [ None ↦ Err (unknown_partial name (keys finds)) | Some reading ↦ reading ]

-- the tree under a name, and none for a fault and for an unknown name
abbrev pub tree_in : {A : Type 0} → NameMap (Result A Refusal) → List ℕ → Option A
tree_in finds name = option_and_then read_tree (get finds name)

module _ {Reg F T B : Type 0} where
  -- what follows from the result of parsing: the run of its nodes, or its refusal
  abbrev pub read_as : Result (Nodes F T B) Refusal → (Nodes F T B → Action Reg) → Action Reg
  read_as (Ok ns) run = run ns
  read_as (Err refusal) run = refuses refusal

  -- the same for a name in a store, if there is one
  abbrev pub sought : Option (List ℕ → Result (Nodes F T B) Refusal) → List ℕ → (Nodes F T B → Action Reg) → Action Reg
  sought None name run = refuses (no_store name)
  sought (Some finds) name run = read_as (finds name) run

-- the partial of a name, where this many more may be nested: this is checked before the store
unfoldable pub partials_at : {Reg F T P B Q : Type 0} → Setting Reg F T P B Q → ℕ → List ℕ → Action Reg
partials_at s zero = λ name. refuses too_deep
partials_at s (suc depth) = λ name. sought s.finds name (run_nodes s (partials_at s depth))
