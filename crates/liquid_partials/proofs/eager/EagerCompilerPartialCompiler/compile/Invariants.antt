use Rattle.std.proofs.Common.{◌≡◌, map, string_bytes}
use Rattle.liquid_parser.specs.meaning.Plugins.{language_of}
use Rattle.liquid_template.specs.meaning.TemplateOf.{template_nodes}
use Rattle.liquid_partials.specs.meaning.Compiled.{Compiled}
use Rattle.liquid_partials.specs.meaning.Kept.{kept_or_read}
use Rattle.liquid_partials.proofs.LazyLemmas.{ReadSoFar}
use Rattle.liquid_partials.proofs.eager.EagerCompilerPartialCompiler.compile.Given as goal

abbrev pub invariant-loop-name : goal.invariant-loop-name
invariant-loop-name g l = record {
  source : l.lazy.texts.source ≡ l.fn.self.source;
  compiled : Compiled (language_of g.F.ParseFilter.makes g.T.ParseTag.gives g.B.ParseBlock.block l.fn.language.value)
      (g.S.PartialSource.texts l.fn.self.source) (kept_or_read (λ template. template_nodes g.F.Filter.Meant.shape g.T.Node.Meant.shape
      g.B.Node.Meant.shape template.value) (language_of g.F.ParseFilter.makes g.T.ParseTag.gives g.B.ParseBlock.block
      l.lazy.texts.parser.language.value) l.lazy.kept (g.S.PartialSource.texts l.lazy.texts.source));
  read : ReadSoFar (λ template. template_nodes g.F.Filter.Meant.shape g.T.Node.Meant.shape g.B.Node.Meant.shape template.value)
      (g.S.PartialSource.texts l.fn.self.source) l.lazy.kept l.lazy.texts.readings.count
      (map (λ name. string_bytes name) l.name-iterator.rest.items);
}
