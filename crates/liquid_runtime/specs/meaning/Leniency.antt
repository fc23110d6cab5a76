-- How lenient a view is.
use Rattle.std.specs.Prelude.{Bool, true, false, cond}
use Rattle.liquid_runtime.specs.declared.leniency.Leniency.{Leniency}
use Rattle.liquid_runtime.specs.declared.leniency.Leniency.TheVariants.{Strict, Paths, Indexes}

-- whether a path without a value is nil, and is not refused
abbrev pub is_lenient : Leniency → Bool
is_lenient Strict = false
is_lenient Paths = true
is_lenient Indexes = true

-- whether a variable with an index that is not a scalar is nil, too
abbrev pub includes_indexes : Leniency → Bool
includes_indexes Strict = false
includes_indexes Paths = false
includes_indexes Indexes = true

-- the leniency in which only a path without a value is nil, or in which it is refused
abbrev pub lenient_paths : Bool → Leniency
lenient_paths lenient = cond lenient Paths Strict
