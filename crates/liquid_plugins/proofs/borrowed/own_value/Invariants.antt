use Rattle.std.proofs.Common.{◌≡◌, drop}
use Rattle.liquid_value.specs.meaning.View.{view as tree_of}
use Rattle.liquid_plugins.specs.meaning.ExpressionOf.{expressions_of}
use Rattle.liquid_plugins.specs.steps.LiteralWalk.{literal_walk}
use Rattle.liquid_plugins.proofs.borrowed.own_value.Given as goal

abbrev pub invariant-loop-index : goal.invariant-loop-index
invariant-loop-index l =
    literal_walk (tree_of l.value) (expressions_of l.indexes.items) ≡ literal_walk (tree_of l.at)
    (expressions_of (drop l.index-index l.index-items))
