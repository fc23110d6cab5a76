use Rattle.liquid_partials.proofs.EachLemmas.{keys-each}
use Rattle.jekyll_source.specs.meaning.Pieces.{jekyll_text}
use Rattle.jekyll_source.proofs.source.JekyllSourcePartialSource.names.Goals as goal

pub returns : goal.returns
returns g c = rw (keys-each jekyll_text (g.S.PartialSource.texts c.args.self.now.source)) c.names.ensures
