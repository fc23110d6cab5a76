-- What an item with a number means.
use Rattle.std.specs.Prelude.{Option}
use Rattle.std.specs.Option.{option_map}
use Rattle.liquid_decimals.specs.meaning.Dec.{Dec, dec}
use Rattle.liquid_value.specs.meaning.Tree.{Tree}
use Rattle.liquid_value.specs.meaning.View.{view}
use Rattle.liquid_filters.specs.declared.sort.numbers.Numbered.{Numbered}

-- the number and the item
abbrev pub numbered_view : Numbered → Option Dec × Tree
numbered_view n = (option_map dec n.number, view n.item.now)
