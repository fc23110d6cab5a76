use Rattle.std.proofs.Common.{◌≡◌, drop, map}
use Rattle.liquid_filters.specs.declared.beside.Beside.TheVariants.{Library}
use Rattle.liquid_filters.specs.meaning.Registered.{registered, sense_beside}
use Rattle.liquid_filters.proofs.registry.register_library.Given as goal

abbrev pub invariant-loop-kind : goal.invariant-loop-kind
invariant-loop-kind g l =
    let sense = sense_beside g.L.FilterKind.sense g.O.FilterKind.sense in
    registered sense l.filters (map Library (drop l.kind-index l.kinds)) ≡ registered sense l.initial.filters (map Library l.kinds)
