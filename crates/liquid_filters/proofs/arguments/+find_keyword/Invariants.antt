use Rattle.std.proofs.Common.{length}
use Rattle.liquid_filters.proofs.arguments.+find_keyword.Given as goal

abbrev pub decreases-find_keyword : goal.decreases-find_keyword
decreases-find_keyword l = length l.given.now
