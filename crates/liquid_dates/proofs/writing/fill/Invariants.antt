use Rattle.std.proofs.Common.{◌≡◌, ◌++◌, replicate}
use Rattle.std.specs.String.{string_bytes}
use Rattle.liquid_dates.proofs.writing.fill.Given as goal

abbrev pub invariant-fill : goal.invariant-fill
invariant-fill l = string_bytes l.out ≡ string_bytes l.initial.out ++ replicate l.counter l.filler
