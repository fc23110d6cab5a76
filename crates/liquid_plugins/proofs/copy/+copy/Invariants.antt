use Rattle.std.proofs.Common.{◌≡◌, map, take}
use Rattle.liquid_plugins.specs.meaning.ExpressionOf.{expression_of}
use Rattle.liquid_plugins.proofs.copy.+copy.Given as goal

abbrev pub invariant-copy_indexes-loop-index : goal.invariant-copy_indexes-loop-index
invariant-copy_indexes-loop-index l = map expression_of l.copies.items ≡ map expression_of (take l.index-index l.index-items)
