use Rattle.std.proofs.Common.{length}
use Rattle.liquid_program.proofs.long_command.+long_command.Given as goal

abbrev pub decreases-long_command : goal.decreases-long_command
decreases-long_command l = length l.words.now
