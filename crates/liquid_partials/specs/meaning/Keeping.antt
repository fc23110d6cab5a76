-- What a store that keeps its results has kept after a request, and whether it parses a text for it.
use Rattle.std.specs.Prelude.{ℕ, Bool, true, false, not, ◌&&◌, List, None, Some, is_some, Result, Ok, Err}
use Rattle.std.specs.FinMap.{contains_key, get, insert}
use Rattle.liquid_error.specs.declared.error.Error.{Error}
use Rattle.liquid_error.specs.meaning.Told.{told}
use Rattle.liquid_runtime.specs.meaning.Maps.{NameMap}

-- whether this is a result, which may be a refusal, and not out of memory
abbrev pub is_answer : {A : Type 0} → Result A Error → Bool
is_answer (Ok x) = true
is_answer (Err error) = is_some (told error)

module _ {X : Type 0} where
  -- what is kept after a request: if it had a result, also what is found under its name; after an out-of-memory error,
  -- what was kept before
  abbrev pub kept_after : Bool → NameMap X → List ℕ → NameMap X → NameMap X
  kept_after true finds name kept = elim (get finds name) [ None ↦ kept | Some answer ↦ insert kept name answer ]
  kept_after false finds name kept = kept

  -- whether a request parses a text: if the source has the name and nothing is kept for it
  abbrev pub is_read : NameMap X → NameMap X → List ℕ → Bool
  is_read finds kept name = contains_key finds name && not (contains_key kept name)
