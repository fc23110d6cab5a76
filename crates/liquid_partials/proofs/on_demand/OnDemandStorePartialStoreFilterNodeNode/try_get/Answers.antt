use Rattle.liquid_parser.specs.meaning.Plugins.{language_of}
use Rattle.liquid_partials.specs.meaning.Kept.{readings}
use Rattle.liquid_partials.proofs.StoreLemmas.{tried_tree}
use Rattle.liquid_partials.proofs.on_demand.OnDemandStorePartialStoreFilterNodeNode.try_get.Goals as goal

pub returns-in-Ok-clause-gives : goal.returns-in-Ok-clause-gives
returns-in-Ok-clause-gives g c =
    tried_tree (readings (language_of g.F.ParseFilter.makes g.T.ParseTag.gives g.B.ParseBlock.block
    c.args.self.now.texts.parser.language.value) (g.S.PartialSource.texts c.args.self.now.texts.source)) c.args.name.now _
    c.in-Ok.ensures.gives
