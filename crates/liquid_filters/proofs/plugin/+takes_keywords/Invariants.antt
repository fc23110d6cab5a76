use Rattle.std.proofs.Common.{length}
use Rattle.liquid_filters.proofs.plugin.+takes_keywords.Given as goal

abbrev pub decreases-takes_keywords : goal.decreases-takes_keywords
decreases-takes_keywords l = length l.given.now
