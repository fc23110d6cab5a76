use Rattle.std.proofs.Common.{◌≡◌}
use Rattle.std.specs.BTreeMap.{is_at}
use Rattle.std.specs.Cmp.Lexicographic.{slice_cmp}
use Rattle.std.specs.Map.{lookup}
use Rattle.std.specs.Ordering.{nat_cmp}
use Rattle.liquid_views.proofs.index.ObjectIndex.value_in.Given as goal

abbrev pub invariant-loop-key : goal.invariant-loop-key
invariant-loop-key g l =
    lookup (is_at (λ key. slice_cmp nat_cmp l.name (g.Self.ObjectIndex.index key))) l.map.entries
    ≡ lookup (is_at (λ key. slice_cmp nat_cmp l.name (g.Self.ObjectIndex.index key))) l.key-iterator
