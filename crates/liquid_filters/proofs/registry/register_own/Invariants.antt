use Rattle.std.proofs.Common.{◌≡◌, drop, map}
use Rattle.liquid_filters.specs.declared.beside.Beside.TheVariants.{Own}
use Rattle.liquid_filters.specs.meaning.Registered.{registered, sense_beside}
use Rattle.liquid_filters.proofs.registry.register_own.Given as goal

abbrev pub invariant-loop-kind : goal.invariant-loop-kind
invariant-loop-kind g l =
    let sense = sense_beside g.L.FilterKind.sense g.O.FilterKind.sense in
    registered sense l.filters (map Own (drop l.kind-index l.kinds)) ≡ registered sense l.initial.filters (map Own l.kinds)
