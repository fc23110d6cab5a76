-- What a filter sees and returns if there are no names.
use Rattle.std.specs.Prelude.{Result}
use Rattle.std.specs.FinMap.{empty}
use Rattle.liquid_error.specs.meaning.Refusal.{Refusal, ok_then}
use Rattle.liquid_value.specs.meaning.Tree.{Tree}
use Rattle.liquid_runtime.specs.meaning.Erased.{Erased, erase}
use Rattle.liquid_runtime.specs.meaning.Frames.{built_view}
use Rattle.liquid_plugins.specs.meaning.Chain.{FilterMeaning}

-- a built runtime without globals, of the default depth of a builder
abbrev pub no_names_seen : Erased
no_names_seen = erase (built_view (tt {0}) 32 empty)

-- what a filter returns there, once it is made
abbrev pub called : {F : Type 0} → FilterMeaning F → Result F Refusal → Tree → Result Tree Refusal
called m made input = ok_then made (λ f. m.answers f input no_names_seen)
