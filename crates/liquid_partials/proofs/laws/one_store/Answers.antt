use Rattle.liquid_parser.specs.meaning.Plugins.{language_of}
use Rattle.liquid_partials.proofs.StoreLemmas.{the_store}
use Rattle.liquid_partials.proofs.laws.one_store.Goals as goal

pub returns : goal.returns
returns g c = the_store (language_of g.F.ParseFilter.makes g.T.ParseTag.gives g.B.ParseBlock.block c.args.language.now)
