use denote.Text.{Utf8}
use denote.Shadow.{shadow}
use Rattle.std.proofs.Common.{length}
use Rattle.liquid_program.proofs.open_blocks.find_in_dividers.Given as goal

abbrev pub invariant-elements : goal.invariant-elements
invariant-elements g l = shadow (Utf8 l.rest)

abbrev pub decreases-elements : goal.decreases-elements
decreases-elements g l = length l.rest
