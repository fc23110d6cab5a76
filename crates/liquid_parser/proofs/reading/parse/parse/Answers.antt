use Rattle.liquid_parser.proofs.ReadingSteps.{found_only}
use Rattle.liquid_parser.proofs.reading.parse.parse.Goals as goal

pub returns-clause-only : goal.returns-clause-only
returns-clause-only g c = found_only _ _ _ c.read_nodes.result c.read_nodes.ensures
