use denote.Text.{Utf8}
use denote.Shadow.{shadow}
use Rattle.std.proofs.Common.{length}
use Rattle.liquid_program.proofs.open_blocks.innermost.Given as goal

abbrev pub decreases-elements : goal.decreases-elements
decreases-elements g l = length l.rest

abbrev pub invariant-elements : goal.invariant-elements
invariant-elements g l = shadow (Utf8 l.rest)
