-- Registries as finite maps from names.
use Rattle.std.specs.Prelude.{◌≡◌, ℕ, List, map, String, string_bytes, Option, None, Some}
use Rattle.std.specs.BTreeMap.{BTreeMap}
use Rattle.std.specs.FinMap.{get, from_entries}
use Rattle.std.specs.declared.alloc.Global.{Global}
use Rattle.liquid_runtime.specs.meaning.Maps.{NameMap}

-- the entries of a map, each under the bytes of its name
unfoldable pub by_name : {X : Type 0} → BTreeMap (String Global) X → NameMap X
by_name m = from_entries (map (λ entry. (string_bytes entry.0, entry.1)) m.entries)

-- `None` for `None`, and for a plug-in a clone of it
abbrev pub IsCopied : {X : Type 0} → (X → X → Type 0) → Option X → Option X → Type 0
IsCopied is_clone None copy = copy ≡ None
IsCopied is_clone (Some x) copy = (y : _) × (copy ≡ Some y) × is_clone x y

-- the same names, and under each a clone of the plug-in
abbrev pub IsCopy : {X : Type 0} → (X → X → Type 0) → NameMap X → NameMap X → Type 0
IsCopy is_clone registry copy = (name : List ℕ) → IsCopied is_clone (get registry name) (get copy name)
