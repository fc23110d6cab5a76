use Rattle.std.proofs.Common.{◌∙◌, Some, ap, sym}
use Rattle.std.specs.Option.{option_map}
use Rattle.liquid_partials.proofs.EachLemmas.{get-each}
use Rattle.jekyll_source.specs.meaning.Pieces.{jekyll_text}
use Rattle.jekyll_source.proofs.source.JekyllSourcePartialSource.try_get.Goals as goal

pub returns-in_ok-jekyll_text-in-Some : goal.returns-in_ok-jekyll_text-in-Some
returns-in_ok-jekyll_text-in-Some g c =
    ap Some (c.in_ok-jekyll_text-in-Some.ensures ∙ ap jekyll_text c.as_str.ensures.value)
    ∙ ap (option_map jekyll_text) (rw c.in-Some.is at c.in_ok-text.ensures)
    ∙ sym (get-each jekyll_text (g.S.PartialSource.texts c.args.self.now.source) c.args.name.now)

pub returns-in-None : goal.returns-in-None
returns-in-None g c =
    ap (option_map jekyll_text) (rw c.in-None.is at c.in_ok-text.ensures)
    ∙ sym (get-each jekyll_text (g.S.PartialSource.texts c.args.self.now.source) c.args.name.now)
