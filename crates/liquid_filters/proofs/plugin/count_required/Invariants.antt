use Rattle.std.proofs.Common.{◌≡◌, ◌+◌, ◌≤◌, drop, map}
use Rattle.liquid_filters.specs.meaning.Calls.{required}
use Rattle.liquid_filters.proofs.plugin.count_required.Given as goal

abbrev pub invariant-loop-parameter : goal.invariant-loop-parameter
invariant-loop-parameter l = record {
  counted : l.count + required (map (λ p. p.is_optional) (drop l.parameter-index l.parameters)) ≡ required
      (map (λ p. p.is_optional) l.parameters);
  bounded : l.count ≤ l.parameter-index;
}
