use Rattle.std.proofs.Common.{length}
use Rattle.liquid_program.proofs.pages_command.+is_new.Given as goal

abbrev pub decreases-is_new : goal.decreases-is_new
decreases-is_new l = length l.templates.now
