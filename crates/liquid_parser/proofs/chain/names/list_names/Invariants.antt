use Rattle.std.proofs.Common.{◌≡◌, ◌++◌, map}
use Rattle.std.specs.FinMap.{keys}
use Rattle.liquid_parser.proofs.chain.names.list_names.Given as goal

abbrev pub invariant-loop-name : goal.invariant-loop-name
invariant-loop-name g l = keys l.registry ≡ map (λ name. name.now) l.names.items ++ l.name-iterator
