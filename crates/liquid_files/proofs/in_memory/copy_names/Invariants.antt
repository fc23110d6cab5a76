use Rattle.std.proofs.Common.{◌≡◌, ◌++◌, map, drop, string_bytes}
use Rattle.liquid_files.proofs.in_memory.copy_names.Given as goal

abbrev pub invariant-loop-name : goal.invariant-loop-name
invariant-loop-name l =
    map string_bytes l.copies.items ++ map string_bytes (drop l.name-index l.name-items) ≡ map string_bytes l.fn.names.items
