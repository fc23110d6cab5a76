use denote.Text.{Utf8}
use denote.Shadow.{shadow}
use Rattle.std.proofs.Common.{◌≤◌, length}
use Rattle.liquid_page.proofs.uses.after_end.Given as goal

abbrev pub invariant-elements : goal.invariant-elements
invariant-elements l = shadow (Utf8 l.rest) × (length l.rest ≤ length l.fn.text)

abbrev pub decreases-elements : goal.decreases-elements
decreases-elements l = length l.rest
