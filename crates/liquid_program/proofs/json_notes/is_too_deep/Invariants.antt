use Rattle.std.proofs.Common.{length}
use Rattle.liquid_program.proofs.json_notes.is_too_deep.Given as goal

abbrev pub decreases-tokens : goal.decreases-tokens
decreases-tokens l = length l.reader
