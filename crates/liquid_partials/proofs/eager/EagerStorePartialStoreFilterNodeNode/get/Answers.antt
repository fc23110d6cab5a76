use Rattle.std.proofs.Common.{◌∙◌, sym, subst}
use Rattle.liquid_parser.specs.meaning.Plugins.{language_of}
use Rattle.liquid_template.specs.meaning.TemplateOf.{template_nodes}
use Rattle.liquid_partials.specs.meaning.Keeping.{is_answer}
use Rattle.liquid_partials.specs.meaning.Kept.{HasAll}
use Rattle.liquid_partials.proofs.LazyLemmas.{has-after, no_more}
use Rattle.liquid_partials.proofs.eager.EagerStorePartialStoreFilterNodeNode.get.Goals as goal

pub returns-clause-count : goal.returns-clause-count
returns-clause-count g c =
    c.get.ensures.count ∙ no_more (λ template. template_nodes g.F.Filter.Meant.shape g.T.Node.Meant.shape g.B.Node.Meant.shape
    template.value) (language_of g.F.ParseFilter.makes g.T.ParseTag.gives g.B.ParseBlock.block
    c.args.self.now.lazy.texts.parser.language.value) (g.S.PartialSource.texts c.args.self.now.lazy.texts.source) c.args.self.now.lazy.kept
    c.args.name.now c.args.self.now.lazy.texts.readings.count c.args.self.now.lazy.known c.args.self.now.whole

pub invariant_of-self : goal.invariant_of-self
invariant_of-self g c = record {
  whole = subst (λ source. HasAll c.get.new.self.kept (g.S.PartialSource.texts source)) (sym c.get.ensures.source)
      (has-after (λ template. template_nodes g.F.Filter.Meant.shape g.T.Node.Meant.shape g.B.Node.Meant.shape template.value)
      (language_of g.F.ParseFilter.makes g.T.ParseTag.gives g.B.ParseBlock.block c.args.self.now.lazy.texts.parser.language.value)
      (g.S.PartialSource.texts c.args.self.now.lazy.texts.source) c.args.self.now.lazy.kept c.get.new.self.kept
      (is_answer c.get.result) c.args.name.now c.args.self.now.whole c.get.ensures.keeps);
}
