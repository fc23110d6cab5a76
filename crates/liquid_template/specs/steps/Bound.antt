-- What bounds a rendering.
use Rattle.std.specs.Prelude.{ℕ, ◌+◌, ◌*◌, List, [], ◌∷◌, Option, None, Some, Result, Ok, Err}
use Rattle.std.specs.FinMap.{values}
use Rattle.liquid_error.specs.meaning.Refusal.{Refusal}
use Rattle.liquid_plugins.specs.meaning.Nodes.{Nodes}
use Rattle.liquid_plugins.specs.meaning.Size.{size_nodes}
use Rattle.liquid_template.specs.meaning.Partials.{Found}

module _ {F T B : Type 0} where
  -- the number of plug-in nodes of a tree; a fault has none
  abbrev pub size_read : Result (Nodes F T B) Refusal → ℕ
  size_read (Ok ns) = size_nodes ns
  size_read (Err refusal) = 0

  -- the same for all of these together
  abbrev pub size_all : List (Result (Nodes F T B) Refusal) → ℕ
  size_all [] = 0
  size_all (reading ∷ readings) = size_read reading + size_all readings

  -- the number of plug-in nodes of all partials together, if there is a store
  abbrev pub partials_size : Option (Found F T B) → ℕ
  partials_size None = 0
  partials_size (Some finds) = size_all (values finds)

-- the partials that may still be opened, and the nodes
abbrev pub work : ℕ → ℕ → ℕ → ℕ
work depth partials size = depth * (partials + 1) + size
