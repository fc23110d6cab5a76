use denote.Text.{Utf8}
use denote.Shadow.{shadow}
use Rattle.std.proofs.Common.{length}
use Rattle.liquid_page.proofs.uses.dates.text_in.Given as goal

abbrev pub invariant-indexes : goal.invariant-indexes
invariant-indexes l = shadow (Utf8 l.rest)

abbrev pub decreases-indexes : goal.decreases-indexes
decreases-indexes l = length l.rest
