use Rattle.std.proofs.Common.{length}
use Rattle.liquid_page.proofs.names.+read_all.Given as goal

abbrev pub decreases-read_all : goal.decreases-read_all
decreases-read_all g l = length l.words.now
