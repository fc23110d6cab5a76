use Rattle.std.proofs.Common.{length}
use Rattle.liquid_program.proofs.pages_command.+pages_in.Given as goal

abbrev pub decreases-pages_in : goal.decreases-pages_in
decreases-pages_in l = length l.words.now
