use Rattle.std.proofs.Common.{◌≡◌, ◌+◌, ◌≤◌, take}
use Rattle.liquid_grammar.specs.meaning.Place.{line_and_column}
use Rattle.liquid_parser.proofs.reading.place.place_in.Given as goal

-- line and column of the bytes that were read
abbrev pub invariant-loop-byte : goal.invariant-loop-byte
invariant-loop-byte l =
    ((l.line, l.column) ≡ line_and_column (take l.byte-index l.byte-items)) × (l.line ≤ l.byte-index + 1) × (l.column ≤ l.byte-index + 1)
