use Rattle.std.proofs.Common.{◌≡◌, drop, map}
use Rattle.liquid_value.specs.meaning.Cow.{cow_view}
use Rattle.liquid_plugins.specs.meaning.ExpressionOf.{expression_of}
use Rattle.liquid_filters.specs.meaning.Calls.{evaluate_all}
use Rattle.liquid_filters.proofs.ArgumentSteps.{following}
use Rattle.liquid_filters.proofs.arguments.evaluate_all.Given as goal

abbrev pub invariant-loop-expression : goal.invariant-loop-expression
invariant-loop-expression g l =
    let v = g.R.Runtime.view l.runtime in
    evaluate_all v (map expression_of l.expressions.items) ≡ following (map cow_view l.values.items)
    (evaluate_all v (map expression_of (drop l.expression-index l.expression-items)))
