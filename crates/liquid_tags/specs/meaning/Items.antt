-- The items that a loop has left, as a list.
use Rattle.std.specs.Prelude.{List, drop, map}
use Rattle.liquid_value.specs.meaning.Tree.{Tree}
use Rattle.liquid_value.specs.meaning.View.{view}
use Rattle.liquid_tags.specs.meaning.Series.{counted}
use Rattle.liquid_tags.specs.declared.for_block.items.Items.{Items}
use Rattle.liquid_tags.specs.declared.for_block.items.Items.TheVariants.{Listed, Counted}

abbrev pub items_left : Items → List Tree
items_left (Listed items) = drop items.place (map (λ v. view v) items.array.value.items)
items_left (Counted numbers) = counted numbers.next numbers.size
