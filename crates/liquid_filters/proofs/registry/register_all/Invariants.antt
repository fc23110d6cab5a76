use Rattle.std.proofs.Common.{◌≡◌}
use Rattle.std.specs.Prelude.{take}
use Rattle.liquid_filters.specs.meaning.Registered.{registered}
use Rattle.liquid_filters.proofs.registry.register_all.Given as goal

abbrev pub invariant-loop-kind : goal.invariant-loop-kind
invariant-loop-kind g l = l.filters ≡ registered g.K.FilterKind.sense l.initial.filters (take l.kind-index l.kinds)
