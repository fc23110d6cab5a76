-- Finite maps whose values are made from those of another one.
use Rattle.std.specs.Prelude.{map}
use Rattle.std.specs.FinMap.{entries, from_entries}
use Rattle.liquid_runtime.specs.meaning.Maps.{NameMap}

-- the same names, each with what its value gives
unfoldable pub each : {X Y : Type 0} → (X → Y) → NameMap X → NameMap Y
each f m = from_entries (map (λ entry. (entry.0, f entry.1)) (entries m))
