-- Sources: finite maps from names to texts.
use Rattle.std.specs.Prelude.{ℕ, List, String, string_bytes}
use Rattle.std.specs.BTreeMap.{BTreeMap}
use Rattle.std.specs.declared.alloc.Global.{Global}
use Rattle.liquid_runtime.specs.meaning.Maps.{NameMap}
use Rattle.liquid_plugins.specs.meaning.Registry.{by_name}
use Rattle.liquid_partials.specs.meaning.Each.{each}

-- names with their texts, as bytes
abbrev pub Texts : Type 0
Texts = NameMap (List ℕ)

-- the texts that a map of the program holds
abbrev pub texts_in : BTreeMap (String Global) (String Global) → Texts
texts_in m = each string_bytes (by_name m)
