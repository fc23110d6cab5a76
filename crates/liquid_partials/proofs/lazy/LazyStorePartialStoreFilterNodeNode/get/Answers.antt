use Rattle.std.proofs.Common.{None, Some, Err, sym, ap, ◌∙◌, subst}
use Rattle.liquid_error.specs.meaning.Told.{told, Gives}
use Rattle.liquid_parser.specs.meaning.Plugins.{language_of}
use Rattle.liquid_template.specs.meaning.Partials.{unknown_partial}
use Rattle.liquid_template.specs.meaning.TemplateOf.{template_nodes}
use Rattle.liquid_partials.specs.meaning.Keeping.{is_answer}
use Rattle.liquid_partials.specs.meaning.Kept.{all_kept, kept_as, kept_or_read, readings}
use Rattle.liquid_partials.proofs.LazyLemmas.{found_kept, kept_stays, keys-known}
use Rattle.liquid_partials.proofs.StoreLemmas.{partial_found}
use Rattle.liquid_parser.proofs.TokenLemmas.{if_some_weaker}
use Rattle.liquid_partials.proofs.lazy.LazyStorePartialStoreFilterNodeNode.get.Goals as goal

pub returns-in-Some-clause-gives : goal.returns-in-Some-clause-gives
returns-in-Some-clause-gives g c =
    subst (λ meant. Gives (λ template. template_nodes g.F.Filter.Meant.shape g.T.Node.Meant.shape g.B.Node.Meant.shape template.value)
    c.answer_of.result meant)
    (sym (partial_found (kept_or_read (λ template. template_nodes g.F.Filter.Meant.shape g.T.Node.Meant.shape g.B.Node.Meant.shape
    template.value) (language_of g.F.ParseFilter.makes g.T.ParseTag.gives g.B.ParseBlock.block
    c.args.self.now.texts.parser.language.value) c.args.self.now.kept (g.S.PartialSource.texts c.args.self.now.texts.source))
    c.args.name.now (Some (kept_as (λ template. template_nodes g.F.Filter.Meant.shape g.T.Node.Meant.shape g.B.Node.Meant.shape
    template.value) c.in-Some.answer.now)) (found_kept (all_kept
    (λ template. template_nodes g.F.Filter.Meant.shape g.T.Node.Meant.shape g.B.Node.Meant.shape template.value) c.args.self.now.kept)
    (readings (language_of g.F.ParseFilter.makes g.T.ParseTag.gives g.B.ParseBlock.block c.args.self.now.texts.parser.language.value)
    (g.S.PartialSource.texts c.args.self.now.texts.source)) c.args.name.now
    (kept_as (λ template. template_nodes g.F.Filter.Meant.shape g.T.Node.Meant.shape g.B.Node.Meant.shape template.value)
    c.in-Some.answer.now) (rw c.in-Some.is at c.under.ensures))))
    c.answer_of.ensures

pub returns-in-Some-clause-keeps : goal.returns-in-Some-clause-keeps
returns-in-Some-clause-keeps g c =
    kept_stays (is_answer c.answer_of.result) (all_kept (λ template. template_nodes g.F.Filter.Meant.shape g.T.Node.Meant.shape
    g.B.Node.Meant.shape template.value) c.args.self.now.kept) (readings
    (language_of g.F.ParseFilter.makes g.T.ParseTag.gives g.B.ParseBlock.block c.args.self.now.texts.parser.language.value)
    (g.S.PartialSource.texts c.args.self.now.texts.source)) c.args.name.now
    (kept_as (λ template. template_nodes g.F.Filter.Meant.shape g.T.Node.Meant.shape g.B.Node.Meant.shape template.value)
    c.in-Some.answer.now) (rw c.in-Some.is at c.under.ensures)

pub returns-in-Ok-None-clause-gives : goal.returns-in-Ok-None-clause-gives
returns-in-Ok-None-clause-gives g c =
    if_some_weaker (told c.unknown.result)
    (λ r e. partial_found (kept_or_read (λ template. template_nodes g.F.Filter.Meant.shape g.T.Node.Meant.shape g.B.Node.Meant.shape
    template.value) (language_of g.F.ParseFilter.makes g.T.ParseTag.gives g.B.ParseBlock.block
    c.args.self.now.texts.parser.language.value) c.args.self.now.kept (g.S.PartialSource.texts c.args.self.now.texts.source))
    c.args.name.now None (sym (rw c.in-Ok-None.field-0-is at c.in-Ok-None.ensures.gives))
    ∙ ap (λ names. Err (unknown_partial c.args.name.now names)) (keys-known
    (λ template. template_nodes g.F.Filter.Meant.shape g.T.Node.Meant.shape g.B.Node.Meant.shape template.value)
    (language_of g.F.ParseFilter.makes g.T.ParseTag.gives g.B.ParseBlock.block c.args.self.now.texts.parser.language.value)
    (g.S.PartialSource.texts c.args.self.now.texts.source) c.args.self.now.kept c.args.self.now.known) ∙ ap (λ x. Err x) (sym e))
    (rw c.in-Ok-None.ensures.source at c.unknown.ensures)
