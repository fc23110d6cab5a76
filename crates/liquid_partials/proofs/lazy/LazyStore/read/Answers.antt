use Rattle.std.proofs.Common.{◌+◌, true, None, Some, sym, ap, ◌∙◌, subst}
use Rattle.liquid_parser.specs.meaning.Plugins.{language_of}
use Rattle.liquid_template.specs.meaning.TemplateOf.{template_nodes}
use Rattle.liquid_partials.specs.meaning.Compiled.{once}
use Rattle.liquid_partials.specs.meaning.Kept.{all_kept, kept_as, kept_or_read, Known}
use Rattle.liquid_partials.proofs.LazyLemmas.{absent_stays, kept_keeps, kept_same, known-kept, read_found, read_once}
use Rattle.liquid_partials.proofs.lazy.LazyStore.read.Goals as goal

pub returns-in_err-answer-clause-count : goal.returns-in_err-answer-clause-count
returns-in_err-answer-clause-count g c =
    c.in_err-answer.ensures.count ∙ ap (λ b. c.args.self.now.texts.readings.count + once b)
    (read_once (λ template. template_nodes g.F.Filter.Meant.shape g.T.Node.Meant.shape g.B.Node.Meant.shape template.value)
    (language_of g.F.ParseFilter.makes g.T.ParseTag.gives g.B.ParseBlock.block c.args.self.now.texts.parser.language.value)
    (g.S.PartialSource.texts c.args.self.now.texts.source) c.args.self.now.kept c.args.self.now.known c.args.name.now c.requires)

pub returns-in_err-copy-in-Some-clause-count : goal.returns-in_err-copy-in-Some-clause-count
returns-in_err-copy-in-Some-clause-count g c =
    c.in_ok-answer.ensures.count ∙ ap (λ b. c.args.self.now.texts.readings.count + once b)
    (read_once (λ template. template_nodes g.F.Filter.Meant.shape g.T.Node.Meant.shape g.B.Node.Meant.shape template.value)
    (language_of g.F.ParseFilter.makes g.T.ParseTag.gives g.B.ParseBlock.block c.args.self.now.texts.parser.language.value)
    (g.S.PartialSource.texts c.args.self.now.texts.source) c.args.self.now.kept c.args.self.now.known c.args.name.now c.requires)

pub returns-in_err-from_str-in-Some-clause-count : goal.returns-in_err-from_str-in-Some-clause-count
returns-in_err-from_str-in-Some-clause-count g c =
    c.in_ok-answer.ensures.count ∙ ap (λ b. c.args.self.now.texts.readings.count + once b)
    (read_once (λ template. template_nodes g.F.Filter.Meant.shape g.T.Node.Meant.shape g.B.Node.Meant.shape template.value)
    (language_of g.F.ParseFilter.makes g.T.ParseTag.gives g.B.ParseBlock.block c.args.self.now.texts.parser.language.value)
    (g.S.PartialSource.texts c.args.self.now.texts.source) c.args.self.now.kept c.args.self.now.known c.args.name.now c.requires)

pub returns-in_err-keep-in-Some-clause-count : goal.returns-in_err-keep-in-Some-clause-count
returns-in_err-keep-in-Some-clause-count g c =
    c.in_ok-answer.ensures.count ∙ ap (λ b. c.args.self.now.texts.readings.count + once b)
    (read_once (λ template. template_nodes g.F.Filter.Meant.shape g.T.Node.Meant.shape g.B.Node.Meant.shape template.value)
    (language_of g.F.ParseFilter.makes g.T.ParseTag.gives g.B.ParseBlock.block c.args.self.now.texts.parser.language.value)
    (g.S.PartialSource.texts c.args.self.now.texts.source) c.args.self.now.kept c.args.self.now.known c.args.name.now c.requires)

pub returns-in_ok-keep-in-Some-clause-count : goal.returns-in_ok-keep-in-Some-clause-count
returns-in_ok-keep-in-Some-clause-count g c =
    c.in_ok-answer.ensures.count ∙ ap (λ b. c.args.self.now.texts.readings.count + once b)
    (read_once (λ template. template_nodes g.F.Filter.Meant.shape g.T.Node.Meant.shape g.B.Node.Meant.shape template.value)
    (language_of g.F.ParseFilter.makes g.T.ParseTag.gives g.B.ParseBlock.block c.args.self.now.texts.parser.language.value)
    (g.S.PartialSource.texts c.args.self.now.texts.source) c.args.self.now.kept c.args.self.now.known c.args.name.now c.requires)

pub returns-in-None-clause-count : goal.returns-in-None-clause-count
returns-in-None-clause-count g c =
    c.in_ok-answer.ensures.count ∙ ap (λ b. c.args.self.now.texts.readings.count + once b)
    (read_once (λ template. template_nodes g.F.Filter.Meant.shape g.T.Node.Meant.shape g.B.Node.Meant.shape template.value)
    (language_of g.F.ParseFilter.makes g.T.ParseTag.gives g.B.ParseBlock.block c.args.self.now.texts.parser.language.value)
    (g.S.PartialSource.texts c.args.self.now.texts.source) c.args.self.now.kept c.args.self.now.known c.args.name.now c.requires)

pub returns-in_ok-keep-in-Some-clause-gives : goal.returns-in_ok-keep-in-Some-clause-gives
returns-in_ok-keep-in-Some-clause-gives g c =
    read_found (λ template. template_nodes g.F.Filter.Meant.shape g.T.Node.Meant.shape g.B.Node.Meant.shape template.value)
    (language_of g.F.ParseFilter.makes g.T.ParseTag.gives g.B.ParseBlock.block c.args.self.now.texts.parser.language.value)
    (g.S.PartialSource.texts c.args.self.now.texts.source) c.args.self.now.kept c.args.self.now.known c.args.name.now c.requires
    (Some (kept_as (λ template. template_nodes g.F.Filter.Meant.shape g.T.Node.Meant.shape g.B.Node.Meant.shape template.value)
    c.in-Some.answer)) (rw c.in-Some.is at c.in_ok-answer.ensures.gives)

pub returns-in_ok-keep-in-Some-clause-same : goal.returns-in_ok-keep-in-Some-clause-same
returns-in_ok-keep-in-Some-clause-same g c =
    rw (c.in_ok-answer.ensures.source, c.in_ok-answer.ensures.language)
    (kept_same (λ template. template_nodes g.F.Filter.Meant.shape g.T.Node.Meant.shape g.B.Node.Meant.shape template.value)
    (language_of g.F.ParseFilter.makes g.T.ParseTag.gives g.B.ParseBlock.block c.args.self.now.texts.parser.language.value)
    (g.S.PartialSource.texts c.args.self.now.texts.source) c.args.self.now.kept c.args.self.now.known c.args.name.now c.requires
    c.keep.new.kept c.in_ok-copy-in-Some.copy c.in-Some.answer (rw c.in_ok-from_str-in-Some.ensures.ok at c.in_ok-keep-in-Some.ensures.ok)
    c.in_ok-copy-in-Some.ensures (rw c.in-Some.is at c.in_ok-answer.ensures.gives))

pub returns-in_ok-keep-in-Some-clause-keeps : goal.returns-in_ok-keep-in-Some-clause-keeps
returns-in_ok-keep-in-Some-clause-keeps g c =
    kept_keeps (λ template. template_nodes g.F.Filter.Meant.shape g.T.Node.Meant.shape g.B.Node.Meant.shape template.value)
    (language_of g.F.ParseFilter.makes g.T.ParseTag.gives g.B.ParseBlock.block c.args.self.now.texts.parser.language.value)
    (g.S.PartialSource.texts c.args.self.now.texts.source) c.args.self.now.kept c.args.self.now.known c.args.name.now c.requires
    c.keep.new.kept c.in_ok-copy-in-Some.copy c.in-Some.answer (rw c.in_ok-from_str-in-Some.ensures.ok at c.in_ok-keep-in-Some.ensures.ok)
    c.in_ok-copy-in-Some.ensures (rw c.in-Some.is at c.in_ok-answer.ensures.gives)

pub returns-in-None-clause-gives : goal.returns-in-None-clause-gives
returns-in-None-clause-gives g c =
    read_found (λ template. template_nodes g.F.Filter.Meant.shape g.T.Node.Meant.shape g.B.Node.Meant.shape template.value)
    (language_of g.F.ParseFilter.makes g.T.ParseTag.gives g.B.ParseBlock.block c.args.self.now.texts.parser.language.value)
    (g.S.PartialSource.texts c.args.self.now.texts.source) c.args.self.now.kept c.args.self.now.known c.args.name.now c.requires None
    (rw c.in-None.is at c.in_ok-answer.ensures.gives)

pub returns-in-None-clause-keeps : goal.returns-in-None-clause-keeps
returns-in-None-clause-keeps g c =
    absent_stays true (kept_or_read (λ template. template_nodes g.F.Filter.Meant.shape g.T.Node.Meant.shape g.B.Node.Meant.shape
    template.value) (language_of g.F.ParseFilter.makes g.T.ParseTag.gives g.B.ParseBlock.block
    c.args.self.now.texts.parser.language.value) c.args.self.now.kept (g.S.PartialSource.texts c.args.self.now.texts.source))
    (all_kept (λ template. template_nodes g.F.Filter.Meant.shape g.T.Node.Meant.shape g.B.Node.Meant.shape template.value)
    c.args.self.now.kept) c.args.name.now
    (sym (read_found (λ template. template_nodes g.F.Filter.Meant.shape g.T.Node.Meant.shape g.B.Node.Meant.shape template.value)
    (language_of g.F.ParseFilter.makes g.T.ParseTag.gives g.B.ParseBlock.block c.args.self.now.texts.parser.language.value)
    (g.S.PartialSource.texts c.args.self.now.texts.source) c.args.self.now.kept c.args.self.now.known c.args.name.now c.requires None
    (rw c.in-None.is at c.in_ok-answer.ensures.gives)))

pub invariant_of-self-in-Some : goal.invariant_of-self-in-Some
invariant_of-self-in-Some g c =
    let read = rw c.in-Some.is at c.in_ok-answer.ensures.gives in
    record {
      known = subst (λ source. Known c.keep.new.kept (g.S.PartialSource.texts source)) (sym c.in_ok-answer.ensures.source)
          (known-kept (λ template. template_nodes g.F.Filter.Meant.shape g.T.Node.Meant.shape g.B.Node.Meant.shape template.value)
          (language_of g.F.ParseFilter.makes g.T.ParseTag.gives g.B.ParseBlock.block c.args.self.now.texts.parser.language.value)
          (g.S.PartialSource.texts c.args.self.now.texts.source) c.args.self.now.kept c.keep.new.kept c.args.name.now
          c.in_ok-copy-in-Some.copy c.keep.result c.args.self.now.known
          (rw c.in_ok-from_str-in-Some.ensures.ok at c.keep.ensures.ok) c.keep.ensures.err
          (ap (λ a. Some a) c.in_ok-copy-in-Some.ensures ∙ read));
    }
