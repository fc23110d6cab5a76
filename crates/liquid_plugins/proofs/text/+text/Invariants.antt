use Rattle.std.proofs.Common.{◌≡◌, ℕ, List, ◌++◌, drop}
use Rattle.std.specs.Fmt.{HasWritten, IsPlainFormatter}
use Rattle.liquid_plugins.specs.meaning.Expression.{indexes_text}
use Rattle.liquid_plugins.specs.meaning.ExpressionOf.{expressions_of}
use Rattle.liquid_plugins.proofs.text.+text.Given as goal

abbrev pub invariant-write_indexes-loop-index : goal.invariant-write_indexes-loop-index
invariant-write_indexes-loop-index g l =
    (done : List ℕ) × (indexes_text (expressions_of l.indexes.items) ≡ done
    ++ indexes_text (expressions_of (drop l.index-index l.index-items)))
    × (IsPlainFormatter l.initial.f → HasWritten g.W.Write.write_str_gives l.initial.f done l.f)
