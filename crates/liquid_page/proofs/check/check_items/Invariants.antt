use Rattle.std.proofs.Common.{◌≡◌}
use Rattle.liquid_page.proofs.check.check_items.Given as goal

abbrev pub invariant-loop-item : goal.invariant-loop-item
invariant-loop-item g l = g.D.Folder.known l.files ≡ g.D.Folder.known l.fn.files
