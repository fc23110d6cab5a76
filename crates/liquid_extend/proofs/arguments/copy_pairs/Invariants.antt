use Rattle.std.proofs.Common.{◌≡◌, ◌++◌, map}
use Rattle.liquid_plugins.specs.meaning.ExpressionOf.{expression_of}
use Rattle.liquid_extend.specs.meaning.Arguments.{pairs_of}
use Rattle.liquid_extend.proofs.arguments.copy_pairs.Given as goal

abbrev pub invariant-loop-name : goal.invariant-loop-name
invariant-loop-name l =
    pairs_of l.owned ++ map (λ p. (p.0.now, expression_of p.1)) l.name-iterator.rest.items ≡ map
    (λ p. (p.0.now, expression_of p.1)) l.fn.pairs.items
