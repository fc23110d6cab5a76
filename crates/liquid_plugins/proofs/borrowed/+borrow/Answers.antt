use Rattle.liquid_value.specs.meaning.View.{view as tree_of}
use Rattle.liquid_plugins.specs.meaning.ExpressionOf.{expressions_of}
use Rattle.liquid_plugins.proofs.BorrowedValues.{literals_lead}
use Rattle.liquid_plugins.proofs.borrowed.+borrow.Goals as goal

pub borrow_through-returns-in-Some-clause-gives : goal.borrow_through-returns-in-Some-clause-gives
borrow_through-returns-in-Some-clause-gives g t c =
    literals_lead (g.R.Runtime.view c.args.runtime.now) (tree_of c.args.value.now) (tree_of c.in-Some.own.now)
    (expressions_of c.args.indexes.now.items) c.in-Some.ensures
