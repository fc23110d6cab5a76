use Rattle.std.proofs.Common.{◌≡◌, ◌++◌, map, take}
use Rattle.std.specs.Char.{to_ascii_uppercase}
use Rattle.std.specs.String.{string_bytes}
use Rattle.liquid_dates.proofs.writing.write_upper.Given as goal

abbrev pub invariant-loop-byte : goal.invariant-loop-byte
invariant-loop-byte l =
    string_bytes l.out ≡ string_bytes l.initial.out ++ map to_ascii_uppercase (take l.byte-index l.byte-items)
