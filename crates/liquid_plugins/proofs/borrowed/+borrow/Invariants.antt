use Rattle.std.proofs.Common.{◌≡◌, drop}
use Rattle.liquid_value.specs.meaning.Cow.{cow_view}
use Rattle.liquid_value.specs.meaning.View.{view as tree_of}
use Rattle.liquid_runtime.specs.meaning.Made.{InPlaceOrMade}
use Rattle.liquid_plugins.specs.meaning.Evaluation.{try_path_of}
use Rattle.liquid_plugins.specs.meaning.ExpressionOf.{expressions_of}
use Rattle.liquid_plugins.proofs.BorrowedValues.{from_here}
use Rattle.liquid_plugins.proofs.borrowed.+borrow.Given as goal

abbrev pub invariant-borrow_through-loop-index : goal.invariant-borrow_through-loop-index
invariant-borrow_through-loop-index g l =
    let v = g.R.Runtime.view l.runtime in
    InPlaceOrMade l.at
    × (from_here (tree_of l.value) (try_path_of v (expressions_of l.indexes.items)) ≡ from_here (cow_view l.at)
    (try_path_of v (expressions_of (drop l.index-index l.index-items))))
