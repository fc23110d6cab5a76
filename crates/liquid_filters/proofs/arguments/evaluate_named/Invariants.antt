use Rattle.std.proofs.Common.{◌≡◌, drop, map}
use Rattle.liquid_filters.specs.meaning.Calls.{evaluate_named, named_expression, named_tree}
use Rattle.liquid_filters.proofs.ArgumentSteps.{following}
use Rattle.liquid_filters.proofs.arguments.evaluate_named.Given as goal

abbrev pub invariant-loop-keyword : goal.invariant-loop-keyword
invariant-loop-keyword g l =
    let v = g.R.Runtime.view l.runtime in
    evaluate_named v (map named_expression l.expressions.items) ≡ following (map named_tree l.values.items)
    (evaluate_named v (map named_expression (drop l.keyword-index l.keyword-items)))
