use Rattle.liquid_parser.specs.meaning.Plugins.{language_of}
use Rattle.liquid_template.specs.meaning.TemplateOf.{template_nodes}
use Rattle.liquid_partials.specs.meaning.Kept.{kept_as}
use Rattle.liquid_partials.proofs.EachLemmas.{empty-named}
use Rattle.liquid_partials.proofs.LazyLemmas.{compiled-empty, known-empty}
use Rattle.liquid_partials.proofs.lazy.LazyCompilerPartialCompiler.compile.Goals as goal

pub returns-clause-compiled : goal.returns-clause-compiled
returns-clause-compiled g c =
    rw (c.new-texts.ensures.language, c.new-texts.ensures.source)
    (compiled-empty (λ template. template_nodes g.F.Filter.Meant.shape g.T.Node.Meant.shape g.B.Node.Meant.shape template.value)
    (language_of g.F.ParseFilter.makes g.T.ParseTag.gives g.B.ParseBlock.block c.args.language.value)
    (g.S.PartialSource.texts c.args.self.source) c.new-kept.result c.new-kept.ensures.empty)

pub returns-clause-kept : goal.returns-clause-kept
returns-clause-kept g c =
    empty-named (kept_as (λ template. template_nodes g.F.Filter.Meant.shape g.T.Node.Meant.shape g.B.Node.Meant.shape template.value))
    c.new-kept.result c.new-kept.ensures.empty

pub invariant_of-result : goal.invariant_of-result
invariant_of-result g c =
    record {
      known = known-empty (λ template. template_nodes g.F.Filter.Meant.shape g.T.Node.Meant.shape g.B.Node.Meant.shape
          template.value) (language_of g.F.ParseFilter.makes g.T.ParseTag.gives g.B.ParseBlock.block c.args.language.value)
          (g.S.PartialSource.texts c.new-texts.result.source) c.new-kept.result c.new-kept.ensures.empty;
    }
