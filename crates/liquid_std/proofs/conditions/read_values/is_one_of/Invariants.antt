use Rattle.std.proofs.Common.{◌≡◌, drop, map}
use Rattle.std.specs.List.{list_any}
use Rattle.std.specs.Prelude.{bytes_eq}
use Rattle.liquid_std.proofs.conditions.read_values.is_one_of.Given as goal

abbrev pub invariant-loop-other : goal.invariant-loop-other
invariant-loop-other l =
    list_any (bytes_eq l.text) (map (λ s. s.now) l.texts) ≡ list_any (bytes_eq l.text) (map (λ s. s.now) (drop l.other-index l.texts))
