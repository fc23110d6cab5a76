use Rattle.std.proofs.Common.{◌≡◌, drop, map, not}
use Rattle.std.specs.Prelude.{find}
use Rattle.liquid_value.specs.meaning.View.{view as tree_of}
use Rattle.liquid_filters.specs.meaning.sort.Order.{one_kind}
use Rattle.liquid_filters.proofs.sort.order.without_kin.Given as goal

abbrev pub invariant-loop-other : goal.invariant-loop-other
invariant-loop-other l =
    find (λ other. not (one_kind (tree_of l.first.now) other)) (map (λ r. tree_of r.now) l.others) ≡ find
    (λ other. not (one_kind (tree_of l.first.now) other)) (map (λ r. tree_of r.now) (drop l.other-index l.others))
