use Rattle.std.proofs.Common.{◌≡◌, ◌++◌, drop, map}
use Rattle.std.specs.Prelude.{string_bytes}
use Rattle.liquid_plugins.specs.meaning.ExpressionOf.{expression_of}
use Rattle.liquid_std.specs.meaning.marks.Groups.{displayed, with_lengths}
use Rattle.liquid_std.proofs.marks.groups.values_key.Given as goal

abbrev pub invariant-loop-value : goal.invariant-loop-value
invariant-loop-value l =
    string_bytes l.key ++ with_lengths (displayed (map expression_of (drop l.value-index l.values))) ≡ with_lengths
    (displayed (map expression_of l.values))
