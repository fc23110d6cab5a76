use Rattle.liquid_parser.specs.meaning.Plugins.{language_of}
use Rattle.liquid_parser.proofs.ReadingSteps.{one_reading}
use Rattle.liquid_parser.proofs.reading.parse.one_reading.Goals as goal

pub returns : goal.returns
returns g c s = one_reading (language_of g.F.ParseFilter.makes g.T.ParseTag.gives g.B.ParseBlock.block c.args.language.now) s
