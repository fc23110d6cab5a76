use Rattle.std.proofs.Common.{◌≡◌, drop, map}
use Rattle.liquid_plugins.specs.meaning.ExpressionOf.{expression_of}
use Rattle.liquid_filters.specs.meaning.Calls.{is_given}
use Rattle.liquid_filters.proofs.plugin.is_given.Given as goal

abbrev pub invariant-loop-keyword : goal.invariant-loop-keyword
invariant-loop-keyword l =
    is_given l.name (map (λ k. (k.0.now, expression_of k.1)) (drop l.keyword-index l.given)) ≡ is_given l.name
    (map (λ k. (k.0.now, expression_of k.1)) l.given)
