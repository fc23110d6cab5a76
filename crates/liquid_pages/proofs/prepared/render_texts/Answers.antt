use Rattle.std.proofs.Common.{Some, rules, subst, sym}
use Rattle.liquid_error.specs.declared.error.Error.{the_lemmas}
use Rattle.liquid_pages.specs.meaning.Pages.{IsFoundIn}
use Rattle.liquid_pages.specs.meaning.Prepared.{IsReadOver}
use Rattle.liquid_pages.proofs.PreparedLemmas.{nodes_read, unparsed_shown}
use Rattle.liquid_pages.proofs.ShownSteps.{nothing_shown}
use Rattle.liquid_pages.proofs.prepared.render_texts.Goals as goal

pub returns-in-NoMemory-clause-shows : goal.returns-in-NoMemory-clause-shows
returns-in-NoMemory-clause-shows g c = λ l text partials reads shown comes.
    nothing_shown shown _ _ _ c.nothing-in-NoMemory.ensures.output c.nothing-in-NoMemory.ensures.end (search (rules, the_lemmas))

pub returns-in-Unparsed-clause-shows : goal.returns-in-Unparsed-clause-shows
returns-in-Unparsed-clause-shows g c = λ l text partials reads shown comes.
    let r = subst (IsReadOver _ _ l text partials) c.in-Unparsed.is reads in
    nothing_shown shown _ _ _ c.nothing-in-Unparsed.ensures.output c.nothing-in-Unparsed.ensures.end
    (unparsed_shown _ l c.args.options text _ partials r.0 shown r.1 comes c.in-Unparsed.error c.fault_of.result r.2 c.fault_of.ensures)

pub returns-in-Read-clause-shows : goal.returns-in-Read-clause-shows
returns-in-Read-clause-shows g c = λ l text partials reads shown comes.
    let r = subst (IsReadOver _ _ l text partials) c.in-Read.is reads in
    c.render_read.ensures.shows l r.0 r.2.1 shown (nodes_read _ l c.args.options text _ partials r.0 shown r.1 comes _ r.2.0)

pub returns-in-Read-clause-prepared : goal.returns-in-Read-clause-prepared
returns-in-Read-clause-prepared g c = λ l text partials reads.
    let r = subst (IsReadOver _ _ l text partials) c.in-Read.is reads in
    (r.0, r.1, (r.2.0, subst (λ found. IsFoundIn l (Some r.0) found) (sym c.render_read.ensures.kept) r.2.1))
