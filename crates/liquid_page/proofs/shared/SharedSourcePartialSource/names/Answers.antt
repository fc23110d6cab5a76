use Rattle.std.proofs.Common.{rules, ◌≡◌}
use Rattle.liquid_partials.specs.meaning.Sources.{texts_in}
use Rattle.liquid_partials.proofs.EachLemmas.{keys-each}
use Rattle.liquid_page.proofs.shared.SharedSourcePartialSource.names.Goals as goal

pub returns : goal.returns
returns g c =
    let same : c.deref.result.now ≡ c.args.self.now.texts.value = search rules in
    rw (keys-each g.R.Rewrite.rewritten (texts_in c.args.self.now.texts.value)) (rw same at c.names_in.ensures)
