use Rattle.std.proofs.Common.{sym, ◌∙◌}
use Rattle.liquid_parser.specs.meaning.Plugins.{language_of}
use Rattle.liquid_partials.proofs.StoreLemmas.{contains-readings}
use Rattle.liquid_partials.proofs.on_demand.OnDemandStorePartialStoreFilterNodeNode.contains.Goals as goal

pub returns : goal.returns
returns g c =
    c.contains.ensures ∙ sym (contains-readings (language_of g.F.ParseFilter.makes g.T.ParseTag.gives g.B.ParseBlock.block
    c.args.self.now.texts.parser.language.value) (g.S.PartialSource.texts c.args.self.now.texts.source) c.args.name.now)
