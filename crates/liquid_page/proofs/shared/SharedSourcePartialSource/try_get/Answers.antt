use Rattle.std.proofs.Common.{rules, ◌≡◌, ◌∙◌, Some, ap, sym}
use Rattle.std.specs.FinMap.{get}
use Rattle.std.specs.Option.{option_map}
use Rattle.liquid_partials.specs.meaning.Sources.{texts_in}
use Rattle.liquid_partials.proofs.EachLemmas.{get-each}
use Rattle.liquid_page.proofs.shared.SharedSourcePartialSource.try_get.Goals as goal

pub returns-in_ok-rewrite-in-Some : goal.returns-in_ok-rewrite-in-Some
returns-in_ok-rewrite-in-Some g c =
    let same : c.deref.result.now ≡ c.args.self.now.texts.value = search rules in
    ap Some c.in_ok-rewrite-in-Some.ensures
    ∙ ap (option_map g.R.Rewrite.rewritten) (rw c.in-Some.is at c.text_at.ensures)
    ∙ ap (λ texts. option_map g.R.Rewrite.rewritten (get (texts_in texts) c.args.name.now)) same
    ∙ sym (get-each g.R.Rewrite.rewritten (texts_in c.args.self.now.texts.value) c.args.name.now)

pub returns-in-None : goal.returns-in-None
returns-in-None g c =
    let same : c.deref.result.now ≡ c.args.self.now.texts.value = search rules in
    ap (option_map g.R.Rewrite.rewritten) (rw c.in-None.is at c.text_at.ensures)
    ∙ ap (λ texts. option_map g.R.Rewrite.rewritten (get (texts_in texts) c.args.name.now)) same
    ∙ sym (get-each g.R.Rewrite.rewritten (texts_in c.args.self.now.texts.value) c.args.name.now)
