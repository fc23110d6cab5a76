use Rattle.std.proofs.Common.{◌≡◌, drop, map}
use Rattle.liquid_value.specs.meaning.View.{view as tree_of}
use Rattle.liquid_plugins.specs.meaning.ExpressionOf.{expression_of}
use Rattle.liquid_std.specs.meaning.conditions.Branches.{equals_one}
use Rattle.liquid_std.proofs.conditions.branches.equals_one.Given as goal

abbrev pub invariant-loop-expression : goal.invariant-loop-expression
invariant-loop-expression g l =
    let v = g.R.Runtime.view l.runtime in
    equals_one l.equality v (tree_of l.value) (map expression_of l.expressions) ≡ equals_one l.equality v (tree_of l.value)
    (map expression_of (drop l.expression-index l.expressions))
