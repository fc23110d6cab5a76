use Rattle.std.proofs.Common.{sym, ◌∙◌}
use Rattle.liquid_parser.specs.meaning.Plugins.{language_of}
use Rattle.liquid_template.specs.meaning.TemplateOf.{template_nodes}
use Rattle.liquid_partials.proofs.LazyLemmas.{keys-known}
use Rattle.liquid_partials.proofs.StoreLemmas.{if_ok}
use Rattle.liquid_partials.proofs.lazy.LazyStorePartialStoreFilterNodeNode.names.Goals as goal

pub returns : goal.returns
returns g c =
    if_ok c.names.result
    (λ names e. e ∙ sym (keys-known (λ template. template_nodes g.F.Filter.Meant.shape g.T.Node.Meant.shape g.B.Node.Meant.shape
    template.value) (language_of g.F.ParseFilter.makes g.T.ParseTag.gives g.B.ParseBlock.block
    c.args.self.now.texts.parser.language.value) (g.S.PartialSource.texts c.args.self.now.texts.source) c.args.self.now.kept
    c.args.self.now.known))
    c.names.ensures
