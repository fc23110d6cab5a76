use Rattle.std.proofs.Common.{◌∙◌, sym}
use Rattle.liquid_partials.proofs.EachLemmas.{contains-each}
use Rattle.jekyll_source.specs.meaning.Pieces.{jekyll_text}
use Rattle.jekyll_source.proofs.source.JekyllSourcePartialSource.contains.Goals as goal

pub returns : goal.returns
returns g c =
    c.contains.ensures ∙ sym (contains-each jekyll_text (g.S.PartialSource.texts c.args.self.now.source) c.args.name.now)
