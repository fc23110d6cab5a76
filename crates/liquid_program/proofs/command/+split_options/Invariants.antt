use Rattle.std.proofs.Common.{length}
use Rattle.liquid_program.proofs.command.+split_options.Given as goal

abbrev pub decreases-split_options : goal.decreases-split_options
decreases-split_options l = length l.words.now
