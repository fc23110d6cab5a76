use Rattle.std.proofs.Common.{Some, is_ok, sym, ◌∙◌}
use Rattle.liquid_parser.specs.meaning.Plugins.{language_of}
use Rattle.liquid_template.specs.meaning.TemplateOf.{template_nodes}
use Rattle.liquid_partials.specs.meaning.Kept.{all_kept, kept_as, kept_or_read, readings}
use Rattle.liquid_partials.proofs.LazyLemmas.{found_kept, kept_stays}
use Rattle.liquid_partials.proofs.StoreLemmas.{if_ok, tree_found}
use Rattle.liquid_partials.proofs.lazy.LazyStorePartialStoreFilterNodeNode.try_get.Goals as goal

pub returns-in-Some-clause-gives : goal.returns-in-Some-clause-gives
returns-in-Some-clause-gives g c =
    if_ok c.tree_of.result (λ found h. h ∙ sym (tree_found (kept_or_read
    (λ template. template_nodes g.F.Filter.Meant.shape g.T.Node.Meant.shape g.B.Node.Meant.shape template.value)
    (language_of g.F.ParseFilter.makes g.T.ParseTag.gives g.B.ParseBlock.block c.args.self.now.texts.parser.language.value)
    c.args.self.now.kept (g.S.PartialSource.texts c.args.self.now.texts.source)) c.args.name.now
    (Some (kept_as (λ template. template_nodes g.F.Filter.Meant.shape g.T.Node.Meant.shape g.B.Node.Meant.shape template.value)
    c.in-Some.answer.now)) (found_kept (all_kept (λ template. template_nodes g.F.Filter.Meant.shape g.T.Node.Meant.shape
    g.B.Node.Meant.shape template.value) c.args.self.now.kept) (readings
    (language_of g.F.ParseFilter.makes g.T.ParseTag.gives g.B.ParseBlock.block c.args.self.now.texts.parser.language.value)
    (g.S.PartialSource.texts c.args.self.now.texts.source)) c.args.name.now
    (kept_as (λ template. template_nodes g.F.Filter.Meant.shape g.T.Node.Meant.shape g.B.Node.Meant.shape template.value)
    c.in-Some.answer.now) (rw c.in-Some.is at c.under.ensures)))) c.tree_of.ensures

pub returns-in-Some-clause-keeps : goal.returns-in-Some-clause-keeps
returns-in-Some-clause-keeps g c =
    kept_stays (is_ok c.tree_of.result) (all_kept (λ template. template_nodes g.F.Filter.Meant.shape g.T.Node.Meant.shape
    g.B.Node.Meant.shape template.value) c.args.self.now.kept) (readings
    (language_of g.F.ParseFilter.makes g.T.ParseTag.gives g.B.ParseBlock.block c.args.self.now.texts.parser.language.value)
    (g.S.PartialSource.texts c.args.self.now.texts.source)) c.args.name.now
    (kept_as (λ template. template_nodes g.F.Filter.Meant.shape g.T.Node.Meant.shape g.B.Node.Meant.shape template.value)
    c.in-Some.answer.now) (rw c.in-Some.is at c.under.ensures)
