use Rattle.std.proofs.Common.{rules, ◌≡◌, ◌∙◌, ap, is_some, sym}
use Rattle.std.specs.FinMap.{get}
use Rattle.liquid_partials.specs.meaning.Sources.{texts_in}
use Rattle.liquid_partials.proofs.EachLemmas.{contains-each}
use Rattle.liquid_page.proofs.shared.SharedSourcePartialSource.contains.Goals as goal

pub returns : goal.returns
returns g c =
    let same : c.deref.result.now ≡ c.args.self.now.texts.value = search rules in
    c.has_text.ensures ∙ ap (λ texts. is_some (get (texts_in texts) c.args.name.now)) same
    ∙ sym (contains-each g.R.Rewrite.rewritten (texts_in c.args.self.now.texts.value) c.args.name.now)
