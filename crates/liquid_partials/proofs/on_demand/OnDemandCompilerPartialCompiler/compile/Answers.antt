use Rattle.liquid_parser.specs.meaning.Plugins.{language_of}
use Rattle.liquid_partials.proofs.StoreLemmas.{compiled}
use Rattle.liquid_partials.proofs.on_demand.OnDemandCompilerPartialCompiler.compile.Goals as goal

pub returns-clause-compiled : goal.returns-clause-compiled
returns-clause-compiled g c =
    rw (c.new.ensures.language, c.new.ensures.source) (compiled (language_of g.F.ParseFilter.makes g.T.ParseTag.gives g.B.ParseBlock.block
    c.args.language.value) (g.S.PartialSource.texts c.args.self.source))
