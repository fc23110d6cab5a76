use Rattle.std.proofs.Common.{◌≡◌, ◌++◌, map, string_bytes}
use Rattle.std.specs.FinMap.{keys}
use Rattle.liquid_partials.proofs.in_memory.InMemorySourcePartialSource.names.Given as goal

abbrev pub invariant-loop-name : goal.invariant-loop-name
invariant-loop-name l = keys l.self ≡ map (λ name. name.now) l.names.items ++ map (λ name. string_bytes name) l.name-iterator
