use Rattle.liquid_parser.specs.meaning.Plugins.{language_of}
use Rattle.liquid_partials.proofs.AgreeLemmas.{stores_agree}
use Rattle.liquid_partials.proofs.laws.stores_agree.Goals as goal

pub returns : goal.returns
returns g c =
    stores_agree (language_of g.F.ParseFilter.makes g.T.ParseTag.gives g.B.ParseBlock.block c.args.language.now) g.S.PartialStore.finds
    g.R.PartialStore.finds
