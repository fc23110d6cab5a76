-- The tree that an owned or borrowed value means.
use Rattle.liquid_value.specs.declared.cow.ValueCow.{ValueCow}
use Rattle.liquid_value.specs.declared.cow.ValueCow.TheVariants.{Owned, Borrowed}
use Rattle.liquid_value.specs.meaning.Tree.{Tree}
use Rattle.liquid_value.specs.meaning.View.{view}

abbrev pub cow_view : ValueCow → Tree
cow_view (Owned v) = view v
cow_view (Borrowed v) = view v.now
