use denote.Text.{Utf8}
use denote.Shadow.{shadow}
use Rattle.std.proofs.Common.{◌+◌, ◌≤◌, length}
use Rattle.liquid_parser.proofs.EscapeLemmas.{Going}
use Rattle.liquid_parser.proofs.reading.escape.escape.Given as goal

abbrev pub decreases-elements : goal.decreases-elements
decreases-elements l = length l.rest

-- each start that is without its end took some text
abbrev pub invariant-elements : goal.invariant-elements
invariant-elements l =
    shadow (Utf8 l.rest) × (l.level + length l.rest ≤ length l.body) × Going l.body l.end_name l.start_name l.nests l.rest l.level
