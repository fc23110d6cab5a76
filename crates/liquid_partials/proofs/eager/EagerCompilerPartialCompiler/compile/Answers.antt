use Rattle.std.proofs.Common.{map, string_bytes, sym, ap, ◌∙◌, subst}
use Rattle.liquid_parser.specs.meaning.Plugins.{language_of}
use Rattle.liquid_template.specs.meaning.TemplateOf.{template_nodes}
use Rattle.liquid_partials.specs.meaning.Compiled.{Compiled}
use Rattle.liquid_partials.specs.meaning.Kept.{HasAll, Known}
use Rattle.liquid_partials.proofs.LazyLemmas.{ReadSoFar, read_none, read_more, read_all, all_counted}
use Rattle.std.proofs.lemmas.List.{nil_from_length}
use Rattle.liquid_partials.proofs.eager.EagerCompilerPartialCompiler.compile.Goals as goal

pub loop-name-init : goal.loop-name-init
loop-name-init g c = record {
  source = c.in_ok-lazy.ensures.source ∙ c.new.ensures;
  compiled = rw c.new.ensures at c.in_ok-lazy.ensures.compiled;
  read =
      read_none (λ template. template_nodes g.F.Filter.Meant.shape g.T.Node.Meant.shape g.B.Node.Meant.shape template.value)
      (g.S.PartialSource.texts c.args.self.source) _ _ _ c.in_ok-lazy.ensures.kept c.in_ok-lazy.ensures.count
      (ap (map (λ name. string_bytes name)) c.into_iter-name-iterator.ensures.into_iter_gives.0
      ∙ (rw (c.texts.ensures, c.in_ok-lazy.ensures.source, c.new.ensures) at c.in_ok-name-items.ensures));
}

pub loop-name-preserved : goal.loop-name-preserved
loop-name-preserved g c =
    let old = c.loop-name.lazy in
    let known = subst (λ source. Known old.kept (g.S.PartialSource.texts source)) c.loop-name.invariant.source old.known in
    let so_far =
    subst (λ items. ReadSoFar (λ template. template_nodes g.F.Filter.Meant.shape g.T.Node.Meant.shape g.B.Node.Meant.shape
    template.value) (g.S.PartialSource.texts c.args.self.source) old.kept old.texts.readings.count
    (map (λ name. string_bytes name) items)) c.in-Some.ensures.steps.0 c.loop-name.invariant.read in
    record {
      source = c.in_ok-try_get.ensures.source ∙ c.loop-name.invariant.source;
      compiled =
          subst (Compiled (language_of g.F.ParseFilter.makes g.T.ParseTag.gives g.B.ParseBlock.block c.args.language.value)
          (g.S.PartialSource.texts c.args.self.source)) (sym c.in_ok-try_get.ensures.kept) c.loop-name.invariant.compiled;
      read =
          read_more (λ template. template_nodes g.F.Filter.Meant.shape g.T.Node.Meant.shape g.B.Node.Meant.shape template.value)
          (language_of g.F.ParseFilter.makes g.T.ParseTag.gives g.B.ParseBlock.block old.texts.parser.language.value)
          (g.S.PartialSource.texts c.args.self.source) old.kept c.try_get.new.self.kept old.texts.readings.count
          c.try_get.new.self.texts.readings.count (string_bytes c.in-Some.name) (map (λ name. string_bytes name) c.next.new.self.rest.items)
          known so_far (rw (c.as_str.ensures.value, c.loop-name.invariant.source) at c.in_ok-try_get.ensures.keeps)
          (rw (c.as_str.ensures.value, c.loop-name.invariant.source) at c.in_ok-try_get.ensures.count);
    }

pub invariant_of-result : goal.invariant_of-result
invariant_of-result g c =
    let none = nil_from_length c.loop-name.name-iterator.rest.items (sym c.loop-name.name-iterator.rest.ok.0 ∙ c.in-None.ensures.steps.0) in
    let whole =
    subst (λ items. ReadSoFar (λ template. template_nodes g.F.Filter.Meant.shape g.T.Node.Meant.shape g.B.Node.Meant.shape
    template.value) (g.S.PartialSource.texts c.args.self.source) c.loop-name.lazy.kept c.loop-name.lazy.texts.readings.count
    (map (λ name. string_bytes name) items)) none c.loop-name.invariant.read in
    record {
      whole =
          subst (λ source. HasAll c.loop-name.lazy.kept (g.S.PartialSource.texts source)) (sym c.loop-name.invariant.source)
          (read_all (λ template. template_nodes g.F.Filter.Meant.shape g.T.Node.Meant.shape g.B.Node.Meant.shape template.value)
          (g.S.PartialSource.texts c.args.self.source) c.loop-name.lazy.kept c.loop-name.lazy.texts.readings.count whole);
    }

pub returns-clause-count : goal.returns-clause-count
returns-clause-count g c =
    let none = nil_from_length c.loop-name.name-iterator.rest.items (sym c.loop-name.name-iterator.rest.ok.0 ∙ c.in-None.ensures.steps.0) in
    let whole =
    subst (λ items. ReadSoFar (λ template. template_nodes g.F.Filter.Meant.shape g.T.Node.Meant.shape g.B.Node.Meant.shape
    template.value) (g.S.PartialSource.texts c.args.self.source) c.loop-name.lazy.kept c.loop-name.lazy.texts.readings.count
    (map (λ name. string_bytes name) items)) none c.loop-name.invariant.read in
    all_counted (λ template. template_nodes g.F.Filter.Meant.shape g.T.Node.Meant.shape g.B.Node.Meant.shape template.value)
    (g.S.PartialSource.texts c.args.self.source) c.loop-name.lazy.kept c.loop-name.lazy.texts.readings.count
    (subst (λ source. Known c.loop-name.lazy.kept (g.S.PartialSource.texts source)) c.loop-name.invariant.source c.loop-name.lazy.known)
    whole
