use Rattle.std.proofs.Common.{◌≡◌, drop}
use Rattle.liquid_plugins.specs.meaning.ExpressionOf.{expressions_of}
use Rattle.liquid_plugins.specs.meaning.Same.{same_indexes}
use Rattle.liquid_plugins.proofs.same.+same.Given as goal

abbrev pub invariant-same_indexes-loop-place : goal.invariant-same_indexes-loop-place
invariant-same_indexes-loop-place l =
    same_indexes (expressions_of l.left.items) (expressions_of l.right.items) ≡ same_indexes (expressions_of (drop l.place l.left.items))
    (expressions_of (drop l.place l.right.items))
