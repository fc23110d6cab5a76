use Rattle.std.proofs.Common.{◌≡◌, ◌++◌, map, drop, string_bytes}
use Rattle.std.specs.FinMap.{keys}
use Rattle.liquid_partials.proofs.eager.copy_names.Given as goal

abbrev pub invariant-loop-name : goal.invariant-loop-name
invariant-loop-name g l =
    map (λ name. string_bytes name) l.owned.items ++ map (λ name. name.now) (drop l.name-index l.name-items) ≡ keys
    (g.S.PartialSource.texts l.texts.source)
