-- What a tested item means.
use Rattle.std.specs.Prelude.{Bool}
use Rattle.liquid_value.specs.meaning.Tree.{Tree}
use Rattle.liquid_value.specs.meaning.View.{view}
use Rattle.liquid_filters.specs.declared.list.searches.Tested.{Tested}

-- whether it passes, and the item
abbrev pub tested_view : Tested → Bool × Tree
tested_view t = (t.passes, view t.item.now)
