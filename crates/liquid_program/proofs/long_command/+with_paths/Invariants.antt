use Rattle.std.proofs.Common.{length}
use Rattle.liquid_program.proofs.long_command.+with_paths.Given as goal

abbrev pub decreases-with_paths : goal.decreases-with_paths
decreases-with_paths l = length l.words.now
