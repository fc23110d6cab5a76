-- What a runtime builder has been given.
use Rattle.std.specs.Prelude.{ℕ, Option}
use Rattle.liquid_runtime.specs.declared.leniency.Leniency.{Leniency}
use Rattle.liquid_runtime.specs.meaning.Maps.{Names, names_of}
use Rattle.liquid_runtime.specs.declared.builder.RuntimeBuilder.{RuntimeBuilder}

-- the caller's globals
abbrev pub globals_of : {V S : Type 0} → RuntimeBuilder V S → Names
globals_of builder = names_of builder.globals

-- the store of partial templates, if one was set
abbrev pub store_of : {V S : Type 0} → RuntimeBuilder V S → Option S
store_of builder = builder.store

-- the number of partial templates that may be nested
abbrev pub depth_of : {V S : Type 0} → RuntimeBuilder V S → ℕ
depth_of builder = builder.depth

-- how lenient the runtime is
abbrev pub lenient_of : {V S : Type 0} → RuntimeBuilder V S → Leniency
lenient_of builder = builder.lenient
