use Rattle.std.proofs.Common.{◌≡◌, ◌++◌, map}
use Rattle.liquid_plugins.specs.meaning.ExpressionOf.{expression_of}
use Rattle.liquid_filters.specs.meaning.Calls.{named_expression}
use Rattle.liquid_filters.proofs.plugin.copy_keywords.Given as goal

abbrev pub invariant-loop-name : goal.invariant-loop-name
invariant-loop-name l =
    map named_expression l.owned.items ++ map (λ k. (k.0.now, expression_of k.1)) l.name-iterator.rest.items ≡ map
    (λ k. (k.0.now, expression_of k.1)) l.fn.given.items
