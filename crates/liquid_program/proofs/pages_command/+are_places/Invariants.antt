use Rattle.std.proofs.Common.{length}
use Rattle.liquid_program.proofs.pages_command.+are_places.Given as goal

abbrev pub decreases-are_places : goal.decreases-are_places
decreases-are_places l = length l.words.now
