use Rattle.std.proofs.Common.{ap}
use Rattle.liquid_parser.specs.meaning.Handed.{value_of}
use Rattle.liquid_parser.proofs.cursor.token.TagToken.value.Goals as goal

pub returns-in-Some : goal.returns-in-Some
returns-in-Some c t is = let found = c.in_ok-value.ensures t is in ap value_of (rw c.in-Some.is at found)
